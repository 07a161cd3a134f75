-- Messages are taken from the pipes, link by link.
use Rattle.std.proofs.Common.{◌≡◌, ℕ, suc, ◌+◌, ◌<◌, Bool, true, false, refl, List, [], ◌∷◌, ◌++◌, Some, length, get_or, map, take, drop, set, sym, ap, ap₂, ◌∙◌, append_assoc, add-one, arith, eq-eqb}
use Rattle.std.specs.Prelude.{slice_get, if◌then◌else◌, ◌==◌}
use Rattle.std.specs.List.{list_all}
use Rattle.std.proofs.lemmas.Bool.{cond-true, cond-false, false≢true, ne_eqb}
use Rattle.std.proofs.lemmas.List.{drop_more, drop-set-lt, take_more_set, take_more}
use Rattle.pt_tags.specs.declared.message.Message.{Message}
use Rattle.pt_types.specs.declared.graph.Graph.{Graph}
use Rattle.pt_types.specs.declared.graph.Link.{Link}
use Rattle.pt_types.specs.declared.firing.OnLink.{OnLink}
use Rattle.pt_semantics.specs.Turn.{is_empty}
use Rattle.pt_types.specs.Lookups.{platform_of}
use Rattle.pt_visits.specs.Pipes.{arriving, emptied, put_on}
use Rattle.pt_semantics.specs.Visits.{leads_to}

-- one link more, whose pipe holds these messages
pub arriving_at : (g : Graph) (i n : ℕ) (pipes : List (List Message)) (d : List Message) → n < length pipes → arriving g i n (drop n pipes) ≡ (if leads_to g i (slice_get g.links n) then map (put_on n) (get_or pipes n d) else []) ++ arriving g i (n + 1) (drop (n + 1) pipes)
arriving_at g i n pipes d lt = ap (arriving g i n) (drop_more pipes n d lt) ∙ ap (λ (k : ℕ). (if leads_to g i (slice_get g.links n) then map (put_on n) (get_or pipes n d) else []) ++ arriving g i k (drop (n + 1) pipes)) (sym (add-one n))

pub emptied_at : (g : Graph) (i n : ℕ) (pipes : List (List Message)) (d : List Message) → n < length pipes → emptied g i n (drop n pipes) ≡ (if leads_to g i (slice_get g.links n) then [] else get_or pipes n d) ∷ emptied g i (n + 1) (drop (n + 1) pipes)
emptied_at g i n pipes d lt = ap (emptied g i n) (drop_more pipes n d lt) ∙ ap (λ (k : ℕ). (if leads_to g i (slice_get g.links n) then [] else get_or pipes n d) ∷ emptied g i k (drop (n + 1) pipes)) (sym (add-one n))

leads : (g : Graph) (i n : ℕ) (link : Link) → slice_get g.links n ≡ Some link → leads_to g i (slice_get g.links n) ≡ (platform_of g link.to == i)
leads g i n link at = ap (leads_to g i) at

module _ (g : Graph) (i n : ℕ) (before now : List OnLink) (pipes : List (List Message)) (link : Link) (d : List Message) (lt : n < length pipes) (at : slice_get g.links n ≡ Some link) where
  -- a link that leads to the platform
  pub taken_here : (all : List OnLink) → platform_of g link.to ≡ i → all ≡ before ++ arriving g i n (drop n pipes) → now ≡ before ++ map (put_on n) (get_or pipes n d) → all ≡ now ++ arriving g i (n + 1) (drop (n + 1) (set pipes n []))
  taken_here all home is taken =
      is
      ∙ ap (λ (z : List OnLink). before ++ z) (arriving_at g i n pipes d lt ∙ ap (λ (z : List OnLink). z ++ arriving g i (n + 1) (drop (n + 1) pipes)) (cond-true (leads_to g i (slice_get g.links n)) (map (put_on n) (get_or pipes n d)) [] (leads g i n link at ∙ eq-eqb (platform_of g link.to) i home)))
      ∙ sym (append_assoc before (map (put_on n) (get_or pipes n d)) (arriving g i (n + 1) (drop (n + 1) pipes)))
      ∙ ap₂ (λ (z : List OnLink) (ps : List (List Message)). z ++ arriving g i (n + 1) ps) (sym taken) (sym (drop-set-lt (n + 1) pipes n [] (omega arith)))

  pub emptied_here : (all : List (List Message)) → platform_of g link.to ≡ i → all ≡ take n pipes ++ emptied g i n (drop n pipes) → all ≡ take (n + 1) (set pipes n []) ++ emptied g i (n + 1) (drop (n + 1) (set pipes n []))
  emptied_here all home is =
      is
      ∙ ap (λ (z : List (List Message)). take n pipes ++ z) (emptied_at g i n pipes d lt ∙ ap (λ (z : List Message). z ∷ emptied g i (n + 1) (drop (n + 1) pipes)) (cond-true (leads_to g i (slice_get g.links n)) [] (get_or pipes n d) (leads g i n link at ∙ eq-eqb (platform_of g link.to) i home)))
      ∙ sym (append_assoc (take n pipes) ([] ∷ []) (emptied g i (n + 1) (drop (n + 1) pipes)))
      ∙ ap₂ (λ (z : List (List Message)) (ps : List (List Message)). z ++ emptied g i (n + 1) ps) (sym (take_more_set pipes n [] lt)) (sym (drop-set-lt (n + 1) pipes n [] (omega arith)))

  -- and one that leads elsewhere
  pub taken_elsewhere : (all : List OnLink) → (platform_of g link.to ≡ i → ⊥) → all ≡ before ++ arriving g i n (drop n pipes) → all ≡ before ++ arriving g i (n + 1) (drop (n + 1) pipes)
  taken_elsewhere all away is = is ∙ ap (λ (z : List OnLink). before ++ z) (arriving_at g i n pipes d lt ∙ ap (λ (z : List OnLink). z ++ arriving g i (n + 1) (drop (n + 1) pipes)) (cond-false (leads_to g i (slice_get g.links n)) (map (put_on n) (get_or pipes n d)) [] (leads g i n link at ∙ ne_eqb (platform_of g link.to) i away)))

  pub emptied_elsewhere : (all : List (List Message)) → (platform_of g link.to ≡ i → ⊥) → all ≡ take n pipes ++ emptied g i n (drop n pipes) → all ≡ take (n + 1) pipes ++ emptied g i (n + 1) (drop (n + 1) pipes)
  emptied_elsewhere all away is =
      is
      ∙ ap (λ (z : List (List Message)). take n pipes ++ z) (emptied_at g i n pipes d lt ∙ ap (λ (z : List Message). z ∷ emptied g i (n + 1) (drop (n + 1) pipes)) (cond-false (leads_to g i (slice_get g.links n)) [] (get_or pipes n d) (leads g i n link at ∙ ne_eqb (platform_of g link.to) i away)))
      ∙ sym (append_assoc (take n pipes) (get_or pipes n d ∷ []) (emptied g i (n + 1) (drop (n + 1) pipes)))
      ∙ ap (λ (z : List (List Message)). z ++ emptied g i (n + 1) (drop (n + 1) pipes)) (sym (take_more pipes n d lt))

-- a link on which nothing waits, wherever it leads
no_more : (n : ℕ) (b : Bool) → (if b then map (put_on n) [] else []) ≡ []
no_more n true = refl
no_more n false = refl

still_none : (b : Bool) → ◌≡◌ {A = List Message} (if b then [] else []) []
still_none true = refl
still_none false = refl

pub taken_none : (g : Graph) (i n : ℕ) (before all : List OnLink) (pipes : List (List Message)) (d : List Message) → n < length pipes → get_or pipes n d ≡ [] → all ≡ before ++ arriving g i n (drop n pipes) → all ≡ before ++ arriving g i (n + 1) (drop (n + 1) pipes)
taken_none g i n before all pipes d lt none is =
    is
    ∙ ap (λ (z : List OnLink). before ++ z) (arriving_at g i n pipes d lt
    ∙ ap (λ (z : List OnLink). z ++ arriving g i (n + 1) (drop (n + 1) pipes)) (ap (λ (ms : List Message). if leads_to g i (slice_get g.links n) then map (put_on n) ms else []) none ∙ no_more n (leads_to g i (slice_get g.links n))))

pub emptied_none : (g : Graph) (i n : ℕ) (all : List (List Message)) (pipes : List (List Message)) (d : List Message) → n < length pipes → get_or pipes n d ≡ [] → all ≡ take n pipes ++ emptied g i n (drop n pipes) → all ≡ take (n + 1) pipes ++ emptied g i (n + 1) (drop (n + 1) pipes)
emptied_none g i n all pipes d lt none is =
    is
    ∙ ap (λ (z : List (List Message)). take n pipes ++ z) (emptied_at g i n pipes d lt
    ∙ ap (λ (z : List Message). z ∷ emptied g i (n + 1) (drop (n + 1) pipes)) (ap (λ (ms : List Message). if leads_to g i (slice_get g.links n) then [] else ms) none ∙ still_none (leads_to g i (slice_get g.links n)) ∙ sym none))
    ∙ sym (append_assoc (take n pipes) (get_or pipes n d ∷ []) (emptied g i (n + 1) (drop (n + 1) pipes)))
    ∙ ap (λ (z : List (List Message)). z ++ emptied g i (n + 1) (drop (n + 1) pipes)) (sym (take_more pipes n d lt))

-- where no pipe has a message, none arrives, and no pipe changes
pub arriving_none : (g : Graph) (i n : ℕ) (pipes : List (List Message)) → list_all is_empty pipes ≡ true → arriving g i n pipes ≡ []
arriving_none g i n [] none = refl
arriving_none g i n ([] ∷ pipes) none = ap (λ (z : List OnLink). z ++ arriving g i (suc n) pipes) (no_more n (leads_to g i (slice_get g.links n))) ∙ arriving_none g i (suc n) pipes none
arriving_none g i n ((m ∷ ms) ∷ pipes) none = absurd (false≢true none)

pub emptied_same : (g : Graph) (i n : ℕ) (pipes : List (List Message)) → list_all is_empty pipes ≡ true → emptied g i n pipes ≡ pipes
emptied_same g i n [] none = refl
emptied_same g i n ([] ∷ pipes) none = ap₂ (λ (z : List Message) (zs : List (List Message)). z ∷ zs) (still_none (leads_to g i (slice_get g.links n))) (emptied_same g i (suc n) pipes none)
emptied_same g i n ((m ∷ ms) ∷ pipes) none = absurd (false≢true none)
