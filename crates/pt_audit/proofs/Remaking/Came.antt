-- Messages that may come to a platform, one by one.
use Rattle.std.proofs.Common.{◌≡◌, ℕ, zero, suc, ◌<◌, true, false, List, [], ◌∷◌, ◌++◌, Option, Some, None, length, set, get_or, slice_get, refl, sym, ap, subst, ◌∙◌, inl, ⊎_elim, append-nil, append_assoc, arith, length-set, eqb-true, eq-eqb}
use Rattle.std.specs.Prelude.{◌==◌}
use Rattle.std.proofs.lemmas.Bool.{cases_Bool, false≢true, ne_eqb}
use Rattle.std.proofs.lemmas.Option.{get_or_from_slice_get, slice_get_within}
use Rattle.pt_tags.specs.declared.message.Message.{Message}
use Rattle.pt_types.specs.declared.graph.Graph.{Graph}
use Rattle.pt_types.specs.declared.graph.Link.{Link}
use Rattle.pt_types.specs.declared.firing.OnLink.{OnLink}
use Rattle.pt_types.specs.Lookups.{platform_of}
use Rattle.pt_semantics.specs.Closing.{on_link}
use Rattle.pt_semantics.specs.Lists.{IsIn}
use Rattle.pt_semantics.specs.Orderly.{IsOrderly}
use Rattle.pt_semantics.specs.Platform.{State}
use Rattle.pt_semantics.proofs.Lookups.{IsIn-append, IsIn-append_right, same_some}
use Rattle.pt_turn.specs.Turned.{MayCome}
use Rattle.pt_turn.proofs.Coming.{on_append}
use Rattle.pt_turn.proofs.Leaving.{on_other, on_own}
use Rattle.pt_audit.specs.Remaking.Lasts.{AreLast, KeepOthers, last_of}
use Rattle.pt_audit.specs.Remaking.Steps.{ComesAfterLast, ComesNext}
use Rattle.pt_audit.proofs.Remaking.Orders.{last_pushed, orderly_front, orderly_last, orderly_push}

-- what was taken before and these messages, by link
abbrev pub with_these : State → List OnLink → ℕ → List Message
with_these s ms l = s.taken l ++ on_link l ms

-- these messages came, and the last of each link is there
pub record ComesOn (g : Graph) (level : ℕ → ℕ) (i : ℕ) (s : State) (before : List OnLink) (old now : List (Option Message)) : Type 0 where
  pub may : MayCome g level i s before
  pub last : AreLast g i (with_these s before) now
  pub others : KeepOthers g i old now

abbrev TakenIsOrderly : Graph → (ℕ → ℕ) → ℕ → State → Type 0
TakenIsOrderly g level i s = (l : ℕ) (link : Link) → slice_get g.links l ≡ Some link → platform_of g link.to ≡ i → IsOrderly g level link (s.taken l)

pub nothing_came : (g : Graph) (level : ℕ → ℕ) (i : ℕ) (s : State) (last : List (Option Message)) → TakenIsOrderly g level i s → AreLast g i s.taken last → ComesOn g level i s [] last last
nothing_came g level i s last orderly are = record {
  may = record {
    links = λ m mem. absurd mem;
    orderly = λ l link at home. subst (IsOrderly g level link) (sym (append-nil (s.taken l))) (orderly l link at home);
  };
  last = record { count = are.count; is = λ l link at home. are.is l link at home ∙ ap (λ z. Some (last_of z)) (sym (append-nil (s.taken l))) };
  others = λ l link at away. refl;
}

on_end : (m : OnLink) (before : List OnLink) → on_link m.link (before ++ m ∷ []) ≡ on_link m.link before ++ m.message ∷ []
on_end m before = on_append m.link before (m ∷ []) ∙ ap (λ z. on_link m.link before ++ z) (on_own m.link m [] (eq-eqb m.link m.link refl))

on_elsewhere : (l : ℕ) (m : OnLink) (before : List OnLink) → (m.link ≡ l → ⊥) → on_link l (before ++ m ∷ []) ≡ on_link l before
on_elsewhere l m before other = on_append l before (m ∷ []) ∙ ap (λ z. on_link l before ++ z) (on_other l m [] (ne_eqb m.link l other)) ∙ append-nil (on_link l before)

pub set_here : {X : Type 0} (xs : List X) (n : ℕ) (y : X) → n < length xs → slice_get (set xs n y) n ≡ Some y
set_here [] n y lt = absurd (omega arith)
set_here (x ∷ xs) zero y lt = refl
set_here (x ∷ xs) (suc n) y lt = set_here xs n y (omega arith)

pub set_elsewhere : {X : Type 0} (xs : List X) (n k : ℕ) (y : X) → (k ≡ n → ⊥) → slice_get (set xs n y) k ≡ slice_get xs k
set_elsewhere [] n k y other = refl
set_elsewhere (x ∷ xs) zero zero y other = absurd (other refl)
set_elsewhere (x ∷ xs) zero (suc k) y other = refl
set_elsewhere (x ∷ xs) (suc n) zero y other = refl
set_elsewhere (x ∷ xs) (suc n) (suc k) y other = set_elsewhere xs n k y (λ (e : k ≡ n). other (ap suc e))

module _ (g : Graph) (level : ℕ → ℕ) (i : ℕ) (s : State) (before : List OnLink) (old last : List (Option Message)) (m : OnLink) (so_far : ComesOn g level i s before old last) where
  -- the last message on its link, of one that leads here
  last_there : (link : Link) → slice_get g.links m.link ≡ Some link → platform_of g link.to ≡ i → (entry : Option Message) → slice_get last m.link ≡ Some entry → entry ≡ last_of (with_these s before m.link)
  last_there link at home entry is = same_some entry (last_of (with_these s before m.link)) (sym is ∙ so_far.last.is m.link link at home)

  entry_is : (link : Link) → slice_get g.links m.link ≡ Some link → platform_of g link.to ≡ i → ◌≡◌ {A = Option Message} (get_or last m.link None) (last_of (with_these s before m.link))
  entry_is link at home = get_or_from_slice_get last m.link (last_of (with_these s before m.link)) None (so_far.last.is m.link link at home)

  pub one_comes : ComesNext g level i last m → ComesOn g level i s (before ++ m ∷ []) old (set last m.link (Some m.message))
  one_comes next =
      let within : m.link < length last = slice_get_within last m.link (last_of (with_these s before m.link)) (so_far.last.is m.link next.link next.at next.home) in
      record {
        may = record {
          links = λ x mem.
              ⊎_elim
              (λ (earlier : IsIn x before). so_far.may.links x earlier)
              (λ (now : IsIn x (m ∷ [])).
              ⊎_elim
              (λ (same : x ≡ m). subst (λ (z : OnLink). (link : Link) × (slice_get g.links z.link ≡ Some link) × (platform_of g link.to ≡ i)) (sym same) (next.link, next.at, next.home))
              (λ (none : ⊥). absurd none)
              now)
              (IsIn-append x before (m ∷ []) mem);
          orderly = λ l link at home.
              ⊎_elim
              (λ (e : (m.link == l) ≡ true).
              let here : m.link ≡ l = eqb-true m.link l e in
              let same : next.link ≡ link = same_some next.link link (sym next.at ∙ ap (slice_get g.links) here ∙ at) in
              subst (λ (k : ℕ). IsOrderly g level link (with_these s (before ++ m ∷ []) k)) here
              (subst (λ (z : Link). IsOrderly g level z (with_these s (before ++ m ∷ []) m.link)) same
              (subst (IsOrderly g level next.link) (append_assoc (s.taken m.link) (on_link m.link before) (m.message ∷ []) ∙ ap (λ z. s.taken m.link ++ z) (sym (on_end m before)))
              (orderly_push g level next.link (with_these s before m.link) m.message (so_far.may.orderly m.link next.link next.at next.home)
              (subst (λ z. ComesAfterLast z m.message) (entry_is next.link next.at next.home) next.after) next.fits))))
              (λ (e : (m.link == l) ≡ false).
              subst (λ z. IsOrderly g level link (s.taken l ++ z)) (sym (on_elsewhere l m before (λ (same : m.link ≡ l). false≢true (sym e ∙ eq-eqb m.link l same))))
              (so_far.may.orderly l link at home))
              (cases_Bool (m.link == l));
        };
        last = record {
          count = length-set last m.link (Some m.message) ∙ so_far.last.count;
          is = λ l link at home.
              ⊎_elim
              (λ (e : (m.link == l) ≡ true).
              let here : m.link ≡ l = eqb-true m.link l e in
              subst (λ (k : ℕ). slice_get (set last m.link (Some m.message)) k ≡ Some (last_of (with_these s (before ++ m ∷ []) k))) here
              (set_here last m.link (Some m.message) within
              ∙ ap Some (sym (last_pushed (with_these s before m.link) m.message)
              ∙ ap last_of (append_assoc (s.taken m.link) (on_link m.link before) (m.message ∷ []) ∙ ap (λ z. s.taken m.link ++ z) (sym (on_end m before))))))
              (λ (e : (m.link == l) ≡ false).
              let apart : m.link ≡ l → ⊥ = λ same. false≢true (sym e ∙ eq-eqb m.link l same) in
              set_elsewhere last m.link l (Some m.message) (λ (same : l ≡ m.link). apart (sym same))
              ∙ so_far.last.is l link at home
              ∙ ap (λ z. Some (last_of (s.taken l ++ z))) (sym (on_elsewhere l m before apart)))
              (cases_Bool (m.link == l));
        };
        others = λ l link at away.
            let apart : l ≡ m.link → ⊥ = λ same. away (subst (λ (z : Link). platform_of g z.to ≡ i) (same_some next.link link (sym next.at ∙ ap (slice_get g.links) (sym same) ∙ at)) next.home) in
            set_elsewhere last m.link l (Some m.message) apart ∙ so_far.others l link at away;
      }

  -- if more messages may come, the first of them may come next
  pub comes_next : (rest : List OnLink) → MayCome g level i s (before ++ m ∷ rest) → ComesNext g level i last m
  comes_next rest may =
      let on = may.links m (IsIn-append_right m before (m ∷ rest) (inl refl)) in
      let link : Link = on.0 in
      let at : slice_get g.links m.link ≡ Some link = on.1 in
      let home : platform_of g link.to ≡ i = on.2 in
      let whole : with_these s (before ++ m ∷ rest) m.link ≡ (with_these s before m.link ++ m.message ∷ []) ++ on_link m.link rest =
      ap (λ z. s.taken m.link ++ z) (on_append m.link before (m ∷ rest) ∙ ap (λ z. on_link m.link before ++ z) (on_own m.link m rest (eq-eqb m.link m.link refl)))
      ∙ regroup (s.taken m.link) (on_link m.link before) m.message (on_link m.link rest) in
      let ends = orderly_last g level link (with_these s before m.link) m.message
      (orderly_front g level link (with_these s before m.link ++ m.message ∷ []) (on_link m.link rest) (subst (IsOrderly g level link) whole (may.orderly m.link link at home))) in
      record {
        link = link;
        at = at;
        home = home;
        after = subst (λ z. ComesAfterLast z m.message) (sym (entry_is link at home)) ends.0;
        fits = ends.1;
      }
    where
      regroup : (a b : List Message) (x : Message) (d : List Message) → a ++ (b ++ x ∷ d) ≡ ((a ++ b) ++ x ∷ []) ++ d
      regroup a b x d = sym (append_assoc (a ++ b) (x ∷ []) d ∙ append_assoc a b (x ∷ d))
