-- Messages that may come to a platform arrive one by one.
use Rattle.std.proofs.Common.{◌≡◌, ℕ, ◌+◌, List, [], ◌∷◌, ◌++◌, Some, take, drop, refl, sym, ap, subst, ◌∙◌, append_assoc, eq-eqb, inl, inr, length}
use Rattle.std.specs.Prelude.{slice_get, ◌==◌}
use Rattle.std.proofs.lemmas.Bool.{cond-true}
use Rattle.std.proofs.lemmas.List.{take-append-drop, take_more}
use Rattle.std.proofs.lemmas.List.Elements.{filter_map-append}
use Rattle.std.proofs.lemmas.Option.{get_or_from_slice_get, slice_get_within}
use Rattle.pt_tags.specs.declared.message.Message.{Message}
use Rattle.pt_types.specs.declared.graph.Graph.{Graph}
use Rattle.pt_types.specs.declared.graph.Link.{Link}
use Rattle.pt_types.specs.declared.firing.OnLink.{OnLink}
use Rattle.pt_types.specs.Ports.{when}
use Rattle.pt_semantics.specs.Closing.{on_link}
use Rattle.pt_types.specs.Lookups.{platform_of}
use Rattle.pt_turn.proofs.Takes.Messages.{on_more}
use Rattle.pt_semantics.specs.Lists.{Each, IsIn}
use Rattle.pt_semantics.specs.Orderly.{ComesAfter, FitsStep, InOrder, IsOrderly}
use Rattle.pt_semantics.specs.Platform.{State}
use Rattle.pt_turn.specs.Takes.Taken.{Arrive, Basis}
use Rattle.pt_turn.specs.Turned.{MayCome}

pub each_front : {X : Type 0} (P : X → Type 0) (xs ys : List X) → Each P (xs ++ ys) → Each P xs
each_front P [] ys h = tt
each_front P (x ∷ xs) ys h = (h.0, each_front P xs ys h.1)

order_front : (xs ys : List Message) → InOrder (xs ++ ys) → InOrder xs
order_front [] ys h = tt
order_front (x ∷ xs) ys h = (each_front (ComesAfter x) xs ys h.0, order_front xs ys h.1)

orderly_front : (g : Graph) (level : ℕ → ℕ) (link : Link) (xs ys : List Message) → IsOrderly g level link (xs ++ ys) → IsOrderly g level link xs
orderly_front g level link xs ys h = (order_front xs ys h.0, each_front (FitsStep g.until (length g.actors) (level link.to)) xs ys h.1)

pub on_append : (l : ℕ) (xs ys : List OnLink) → on_link l (xs ++ ys) ≡ on_link l xs ++ on_link l ys
on_append l xs ys = filter_map-append (λ (x : OnLink). when (x.link == l) (Some x.message)) xs ys

on_own : (before : List OnLink) (m : OnLink) → on_link m.link (before ++ m ∷ []) ≡ on_link m.link before ++ m.message ∷ []
on_own before m = on_more before m m.link ∙ cond-true (m.link == m.link) (on_link m.link before ++ m.message ∷ []) (on_link m.link before) (eq-eqb m.link m.link refl)

in_middle : {X : Type 0} (before rest : List X) (x : X) → IsIn x ((before ++ x ∷ []) ++ rest)
in_middle [] rest x = inl refl
in_middle (y ∷ before) rest x = inr (in_middle before rest x)

-- the member of a number, with those before it and after it
around : {X : Type 0} (xs : List X) (k : ℕ) (x : X) → slice_get xs k ≡ Some x → xs ≡ (take k xs ++ x ∷ []) ++ drop (k + 1) xs
around xs k x at =
    sym (take-append-drop (k + 1) xs)
    ∙ ap (λ ys. ys ++ drop (k + 1) xs) (take_more xs k x (slice_get_within xs k x at) ∙ ap (λ y. take k xs ++ y ∷ []) (get_or_from_slice_get xs k x x at))

pub arrive : (g : Graph) (w : Basis) (s : State) (messages : List OnLink) → ((l : ℕ) → s.taken l ≡ on_link l w.taken) → MayCome g w.level w.platform s messages → Arrive g w messages
arrive g w s messages taken may k m at =
    let split : messages ≡ (take k messages ++ m ∷ []) ++ drop (k + 1) messages = around messages k m at in
    let on : (link : Link) × (slice_get g.links m.link ≡ Some link) × (platform_of g link.to ≡ w.platform) = may.links m (subst (IsIn m) (sym split) (in_middle (take k messages) (drop (k + 1) messages) m)) in
    let whole : s.taken m.link ++ on_link m.link messages ≡ (on_link m.link (w.taken ++ take k messages) ++ m.message ∷ []) ++ on_link m.link (drop (k + 1) messages) =
    ap (λ z. z ++ on_link m.link messages) (taken m.link)
    ∙ sym (on_append m.link w.taken messages)
    ∙ ap (λ z. on_link m.link (w.taken ++ z)) split
    ∙ ap (on_link m.link) (sym (append_assoc w.taken (take k messages ++ m ∷ []) (drop (k + 1) messages)))
    ∙ on_append m.link (w.taken ++ (take k messages ++ m ∷ [])) (drop (k + 1) messages)
    ∙ ap (λ z. on_link m.link z ++ on_link m.link (drop (k + 1) messages)) (sym (append_assoc w.taken (take k messages) (m ∷ [])))
    ∙ ap (λ z. z ++ on_link m.link (drop (k + 1) messages)) (on_own (w.taken ++ take k messages) m) in
    record {
      link = on.0;
      at = on.1;
      home = on.2;
      orderly = orderly_front g w.level on.0 (on_link m.link (w.taken ++ take k messages) ++ m.message ∷ []) (on_link m.link (drop (k + 1) messages)) (subst (IsOrderly g w.level on.0) whole (may.orderly m.link on.0 on.1 on.2));
    }
