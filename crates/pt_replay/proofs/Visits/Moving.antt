-- The messages of one link after the other are moved into the pipes and out of them.
use Rattle.std.proofs.Common.{◌≡◌, ℕ, suc, ◌+◌, ◌<◌, List, [], ◌∷◌, ◌++◌, Some, length, map, get_or, take, drop, set, refl, sym, ap, ap₂, subst, ◌∙◌, arith, eq-eqb, length-set}
use Rattle.std.specs.Prelude.{◌==◌, slice_get, slice_index_or}
use Rattle.std.proofs.lemmas.Bool.{cond-false, cond-true, ne_eqb}
use Rattle.std.proofs.lemmas.List.{drop-set-lt, drop_more}
use Rattle.pt_tags.specs.declared.message.Message.{Message}
use Rattle.pt_types.specs.declared.graph.Graph.{Graph}
use Rattle.pt_types.specs.declared.graph.Link.{Link}
use Rattle.pt_types.specs.Lookups.{platform_of}
use Rattle.pt_semantics.specs.Lists.{Each}
use Rattle.pt_types.specs.declared.air.Air.{Air}
use Rattle.pt_types.specs.declared.air.InAir.{InAir}
use Rattle.pt_semantics.specs.Arrivals.{AirwayView}
use Rattle.pt_semantics.specs.Visits.{leads_to}
use Rattle.pt_semantics.specs.TrueTime.{came, come_on, left_on, map_from, put_all, put_link, transits_on, delay_on}
use Rattle.pt_replay.proofs.Visits.Replacing.{kept, stored, stored_in}

-- the messages that have come on the first l links are in the pipes, and the other pipes are empty
pub record DeliversTo (g : Graph) (i now l : ℕ) (before airways : List AirwayView) (pipes : List (List Message)) : Type 0 where
  pub counts : (length airways ≡ length g.links) × (length pipes ≡ length g.links)
  pub empty : Each (λ pipe. pipe ≡ []) (drop l pipes)
  pub come : map_from (come_on g i now) 0 before ≡ take l pipes ++ map_from (come_on g i now) l (drop l airways)
  pub left : map_from (left_on g i now) 0 before ≡ take l airways ++ map_from (left_on g i now) l (drop l airways)

module _ (g : Graph) (i now l : ℕ) (link : Link) (at : slice_get g.links l ≡ Some link) (a : AirwayView) where
  leads : leads_to g i (slice_get g.links l) ≡ (platform_of g link.to == i)
  leads = ap (leads_to g i) at

  come_home : platform_of g link.to ≡ i → come_on g i now l a ≡ map (λ (m : InAir). m.message) (take (came now a.on_way) a.on_way)
  come_home home = cond-true (leads_to g i (slice_get g.links l)) (map (λ (m : InAir). m.message) (take (came now a.on_way) a.on_way)) [] (leads ∙ eq-eqb (platform_of g link.to) i home)

  left_home : platform_of g link.to ≡ i → left_on g i now l a ≡ record a { on_way = drop (came now a.on_way) a.on_way }
  left_home home = cond-true (leads_to g i (slice_get g.links l)) (record a { on_way = drop (came now a.on_way) a.on_way }) a (leads ∙ eq-eqb (platform_of g link.to) i home)

  come_away : (platform_of g link.to ≡ i → ⊥) → come_on g i now l a ≡ []
  come_away away = cond-false (leads_to g i (slice_get g.links l)) (map (λ (m : InAir). m.message) (take (came now a.on_way) a.on_way)) [] (leads ∙ ne_eqb (platform_of g link.to) i away)

  left_away : (platform_of g link.to ≡ i → ⊥) → left_on g i now l a ≡ a
  left_away away = cond-false (leads_to g i (slice_get g.links l)) (record a { on_way = drop (came now a.on_way) a.on_way }) a (leads ∙ ne_eqb (platform_of g link.to) i away)

module _ (g : Graph) (i now l : ℕ) (link : Link) (at : slice_get g.links l ≡ Some link) (below : l < length g.links) (before airways : List AirwayView) (pipes : List (List Message)) (a : AirwayView) (p : List Message) (h : DeliversTo g i now l before airways pipes) where
  opened : Each (λ pipe. pipe ≡ []) (get_or pipes l p ∷ drop (l + 1) pipes)
  opened = subst (Each (λ (pipe : List Message). pipe ≡ [])) (drop_more pipes l p (omega (arith, below, h.counts.1))) h.empty

  -- the next pipe is empty
  pub next_empty : get_or pipes l p ≡ []
  next_empty = opened.0

  -- the next link leads to the platform
  pub one_delivered : (b : AirwayView) (messages : List Message) → platform_of g link.to ≡ i
      → messages ≡ map (λ (m : InAir). m.message) (take (came now (get_or airways l a).on_way) (get_or airways l a).on_way)
      → b ≡ record (get_or airways l a) { on_way = drop (came now (get_or airways l a).on_way) (get_or airways l a).on_way }
      → DeliversTo g i now (l + 1) before (set airways l b) (set pipes l messages)
  one_delivered b messages home come left = record {
    counts = (length-set airways l b ∙ h.counts.0, length-set pipes l messages ∙ h.counts.1);
    empty = subst (Each (λ (pipe : List Message). pipe ≡ [])) (sym (drop-set-lt (l + 1) pipes l messages (omega arith))) opened.1;
    come =
        stored (come_on g i now) l airways pipes (map_from (come_on g i now) 0 before) a (omega (arith, below, h.counts.0)) (omega (arith, below, h.counts.1)) h.come messages (come ∙ sym (come_home g i now l link at (get_or airways l a) home))
        ∙ ap (λ (z : List AirwayView). take (l + 1) (set pipes l messages) ++ map_from (come_on g i now) (l + 1) z) (sym (drop-set-lt (l + 1) airways l b (omega arith)));
    left = stored_in (left_on g i now) l airways (map_from (left_on g i now) 0 before) a b (omega (arith, below, h.counts.0)) h.left (left ∙ sym (left_home g i now l link at (get_or airways l a) home));
  }

  -- the next link leads elsewhere
  pub one_waits : (platform_of g link.to ≡ i → ⊥) → DeliversTo g i now (l + 1) before airways pipes
  one_waits away = record {
    counts = h.counts;
    empty = opened.1;
    come = kept (come_on g i now) l airways pipes (map_from (come_on g i now) 0 before) a (omega (arith, below, h.counts.0)) (omega (arith, below, h.counts.1)) h.come p (opened.0 ∙ sym (come_away g i now l link at (get_or airways l a) away));
    left = kept (left_on g i now) l airways airways (map_from (left_on g i now) 0 before) a (omega (arith, below, h.counts.0)) (omega (arith, below, h.counts.0)) h.left a (sym (left_away g i now l link at (get_or airways l a) away));
  }

-- the messages in the pipes of the first l links are on their way
pub record PutsTo (air : Air) (g : Graph) (now l : ℕ) (before airways : List AirwayView) (piped pipes : List (List Message)) : Type 0 where
  pub counts : (length airways ≡ length g.links) × (length pipes ≡ length g.links) × (length piped ≡ length g.links)
  pub ahead : drop l pipes ≡ drop l piped
  pub put : map_from (λ k. put_link air g now k (slice_index_or piped k [])) 0 before ≡ take l airways ++ map_from (λ k. put_link air g now k (slice_index_or piped k [])) l (drop l airways)
  pub emptied : map_from (λ k pipe. []) 0 piped ≡ take l pipes ++ map_from (λ k pipe. []) l (drop l pipes)

module _ (air : Air) (g : Graph) (now l : ℕ) (below : l < length g.links) (before airways : List AirwayView) (piped pipes : List (List Message)) (a : AirwayView) (p : List Message) (h : PutsTo air g now l before airways piped pipes) where
  both : get_or pipes l p ∷ drop (l + 1) pipes ≡ get_or piped l [] ∷ drop (l + 1) piped
  both = sym (drop_more pipes l p (omega (arith, below, h.counts.1))) ∙ h.ahead ∙ drop_more piped l [] (omega (arith, below, h.counts.2))

  next_pipe : get_or pipes l p ≡ slice_index_or piped l []
  next_pipe = ap (λ (ms : List (List Message)). get_or ms 0 []) both

  pub one_put : (b : AirwayView) (transits : List ℕ) (delay : ℕ) (left : List Message) → transits ≡ transits_on air l → delay ≡ delay_on g l
      → b ≡ put_all now transits delay (get_or pipes l p) (get_or airways l a) → left ≡ []
      → PutsTo air g now (l + 1) before (set airways l b) piped (set pipes l left)
  one_put b transits delay left recorded stated put none = record {
    counts = (length-set airways l b ∙ h.counts.0, length-set pipes l left ∙ h.counts.1, h.counts.2);
    ahead = drop-set-lt (l + 1) pipes l left (omega arith) ∙ ap (drop 1) both;
    put = stored_in (λ k. put_link air g now k (slice_index_or piped k [])) l airways (map_from (λ k. put_link air g now k (slice_index_or piped k [])) 0 before) a b (omega (arith, below, h.counts.0)) h.put
        (put
        ∙ ap₂ (λ (ts : List ℕ) (d : ℕ). put_all now ts d (get_or pipes l p) (get_or airways l a)) recorded stated
        ∙ ap (λ (ms : List Message). put_all now (transits_on air l) (delay_on g l) ms (get_or airways l a)) next_pipe);
    emptied = stored_in (λ k pipe. []) l pipes (map_from (λ k pipe. []) 0 piped) p left (omega (arith, below, h.counts.1)) h.emptied none;
  }

  -- there is no message in the next pipe
  pub none_put : get_or pipes l p ≡ [] → PutsTo air g now (l + 1) before airways piped pipes
  none_put none = record {
    counts = h.counts;
    ahead = ap (drop 1) both;
    put = kept (λ k. put_link air g now k (slice_index_or piped k [])) l airways airways (map_from (λ k. put_link air g now k (slice_index_or piped k [])) 0 before) a (omega (arith, below, h.counts.0)) (omega (arith, below, h.counts.0)) h.put a
        (sym (ap (λ (ms : List Message). put_link air g now l ms (get_or airways l a)) (sym next_pipe ∙ none)));
    emptied = kept (λ k pipe. []) l pipes pipes (map_from (λ k pipe. []) 0 piped) p (omega (arith, below, h.counts.1)) (omega (arith, below, h.counts.1)) h.emptied p none;
  }

pub all_empty : {A B : Type 0} (n : ℕ) (xs : List A) → map_from {A = A} {B = List B} (λ k x. []) n xs ≡ map (λ x. []) xs
all_empty n [] = refl
all_empty {A} {B} n (x ∷ xs) = ap (λ (z : List (List B)). [] ∷ z) (all_empty (suc n) xs)

-- pipes without messages
pub none_there : (pipes : List (List Message)) → ((l : ℕ) → slice_index_or pipes l [] ≡ []) → pipes ≡ map (λ pipe. []) pipes
none_there [] none = refl
none_there (pipe ∷ pipes) none = ap₂ (λ (x : List Message) (xs : List (List Message)). x ∷ xs) (none 0) (none_there pipes (λ l. none (suc l)))
