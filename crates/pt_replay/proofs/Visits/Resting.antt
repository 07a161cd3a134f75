-- A visit before the next message arrives, in which nothing happens.
use Rattle.std.proofs.Common.{◌≡◌, ℕ, zero, suc, ◌+◌, ◌<◌, ◌≤◌, Bool, true, false, List, [], ◌∷◌, ◌++◌, Some, None, length, map, take, drop, min, refl, sym, ap, ap₂, subst, ◌∙◌, Option, arith}
use Rattle.std.specs.Prelude.{if◌then◌else◌, slice_get, slice_index_or}
use Rattle.std.proofs.lemmas.Bool.{eqb-true, false≢true}
use Rattle.pt_tags.specs.declared.message.Message.{Message}
use Rattle.pt_types.specs.declared.graph.Graph.{Graph}
use Rattle.pt_types.specs.declared.graph.Link.{Link}
use Rattle.pt_types.specs.declared.firing.Done.{Done}
use Rattle.pt_types.specs.declared.firing.OnLink.{OnLink}
use Rattle.pt_types.specs.Lookups.{platform_of}
use Rattle.pt_semantics.specs.Lists.{Each}
use Rattle.pt_types.specs.declared.air.Air.{Air}
use Rattle.pt_types.specs.declared.air.InAir.{InAir}
use Rattle.pt_semantics.specs.Arrivals.{AirwayView}
use Rattle.pt_turn.specs.Platforms.{PlatformView}
use Rattle.pt_turn.specs.Rested.{HasRested}
use Rattle.pt_visits.specs.Pipes.{arriving, emptied, put_on}
use Rattle.pt_semantics.specs.Visits.{leads_to}
use Rattle.pt_visits.specs.Visited.{IsVisited}
use Rattle.pt_visits.proofs.Visits.{rested_visit}
use Rattle.pt_replay.specs.Visits.Visits.{WasVisitedAt}
use Rattle.pt_replay.specs.Visits.Moments.{ArriveFrom}
use Rattle.pt_semantics.specs.TrueTime.{came, come_on, left_on, map_from, put_link, reading_at}
use Rattle.pt_replay.proofs.Visits.Arrived.{none_passes}
use Rattle.pt_replay.proofs.Visits.Awaited.{each_so}
use Rattle.pt_replay.proofs.Visits.Visited.{visit_of}
use Rattle.pt_replay.proofs.Visits.Replacing.{map_alike}

-- no message on a link to platform i has arrived
abbrev pub NoneHasCome : Graph → ℕ → ℕ → ℕ → List AirwayView → Type 0
NoneHasCome g i now n airways = (k : ℕ) (a : AirwayView) → slice_get airways k ≡ Some a → leads_to g i (slice_get g.links (n + k)) ≡ true → Each (λ (m : InAir). now < m.arrives) a.on_way

module _ (g : Graph) (i now : ℕ) where
  module _ (l : ℕ) (a : AirwayView) (later : leads_to g i (slice_get g.links l) ≡ true → Each (λ (m : InAir). now < m.arrives) a.on_way) where
    none_came : leads_to g i (slice_get g.links l) ≡ true → came now a.on_way ≡ 0
    none_came there = ap (λ (ms : List InAir). min 64 (length ms)) (none_passes now a.on_way (later there))

    none_comes : come_on g i now l a ≡ []
    none_comes = by (leads_to g i (slice_get g.links l)) (λ there. ap (λ k. map (λ (m : InAir). m.message) (take k a.on_way)) (none_came there))
      where
        by : (b : Bool) → (b ≡ true → map (λ (m : InAir). m.message) (take (came now a.on_way) a.on_way) ≡ []) → ◌≡◌ {A = List Message} (if b then map (λ (m : InAir). m.message) (take (came now a.on_way) a.on_way) else []) []
        by true e = e refl
        by false e = refl

    all_stay : left_on g i now l a ≡ a
    all_stay = by (leads_to g i (slice_get g.links l)) (λ there. ap (λ k. record a { on_way = drop k a.on_way }) (none_came there))
      where
        by : (b : Bool) → (b ≡ true → record a { on_way = drop (came now a.on_way) a.on_way } ≡ a) → ◌≡◌ {A = AirwayView} (if b then record a { on_way = drop (came now a.on_way) a.on_way } else a) a
        by true e = e refl
        by false e = refl

  next_none : (n : ℕ) (a : AirwayView) (airways : List AirwayView) → NoneHasCome g i now n (a ∷ airways) → NoneHasCome g i now (suc n) airways
  next_none n a airways h = λ k b at there. h (suc k) b at (subst (λ j. leads_to g i (slice_get g.links j) ≡ true) (shift n k) there)
    where
      shift : (n k : ℕ) → suc n + k ≡ n + suc k
      shift n k = omega arith

  first_none : (n : ℕ) (a : AirwayView) (airways : List AirwayView) → NoneHasCome g i now n (a ∷ airways) → leads_to g i (slice_get g.links n) ≡ true → Each (λ (m : InAir). now < m.arrives) a.on_way
  first_none n a airways h there = h 0 a refl (subst (λ j. leads_to g i (slice_get g.links j) ≡ true) (same n) there)
    where
      same : (n : ℕ) → n ≡ n + 0
      same n = omega arith

  pub all_none : (n : ℕ) (airways : List AirwayView) → NoneHasCome g i now n airways → map_from (come_on g i now) n airways ≡ map (λ a. []) airways
  all_none n [] h = refl
  all_none n (a ∷ airways) h = ap₂ (λ (x : List Message) (xs : List (List Message)). x ∷ xs) (none_comes n a (first_none n a airways h)) (all_none (suc n) airways (next_none n a airways h))

  pub all_left : (n : ℕ) (airways : List AirwayView) → NoneHasCome g i now n airways → map_from (left_on g i now) n airways ≡ airways
  all_left n [] h = refl
  all_left n (a ∷ airways) h = ap₂ (λ (x : AirwayView) (xs : List AirwayView). x ∷ xs) (all_stay n a (first_none n a airways h)) (all_left (suc n) airways (next_none n a airways h))

  -- no message arrives
  none_arriving : (n : ℕ) (airways : List AirwayView) → arriving g i n (map (λ a. []) airways) ≡ []
  none_arriving n [] = refl
  none_arriving n (a ∷ airways) = ap (λ (ms : List OnLink). (if leads_to g i (slice_get g.links n) then map (put_on n) [] else []) ++ ms) (none_arriving (suc n) airways) ∙ by (leads_to g i (slice_get g.links n))
    where
      by : (b : Bool) → ◌≡◌ {A = List OnLink} ((if b then map (put_on n) [] else []) ++ []) []
      by true = refl
      by false = refl

  still_empty : (n : ℕ) (airways : List AirwayView) → emptied g i n (map (λ a. []) airways) ≡ map (λ a. []) airways
  still_empty n [] = refl
  still_empty n (a ∷ airways) = ap₂ (λ (x : List Message) (xs : List (List Message)). x ∷ xs) (by (leads_to g i (slice_get g.links n))) (still_empty (suc n) airways)
    where
      by : (b : Bool) → ◌≡◌ {A = List Message} (if b then [] else []) []
      by true = refl
      by false = refl

no_pipe : (airways : List AirwayView) (k : ℕ) → slice_index_or (map {B = List Message} (λ (a : AirwayView). []) airways) k [] ≡ []
no_pipe [] k = refl
no_pipe (a ∷ airways) zero = refl
no_pipe (a ∷ airways) (suc k) = no_pipe airways k

-- as many empty pipes
pub no_pipes : (airways : List AirwayView) (pipes : List (List Message)) → length airways ≡ length pipes → Each (λ pipe. pipe ≡ []) pipes → map {B = List Message} (λ (a : AirwayView). []) airways ≡ pipes
no_pipes [] [] count empty = refl
no_pipes [] (p ∷ pipes) count empty = absurd (omega (arith, count))
no_pipes (a ∷ airways) [] count empty = absurd (omega (arith, count))
no_pipes (a ∷ airways) (p ∷ pipes) count empty = ap₂ (λ (x : List Message) (xs : List (List Message)). x ∷ xs) (sym empty.0) (no_pipes airways pipes (omega (arith, count)) empty.1)

pub all_kept : {A : Type 0} (n : ℕ) (xs : List A) → map_from (λ (k : ℕ) (x : A). x) n xs ≡ xs
all_kept n [] = refl
all_kept {A} n (x ∷ xs) = ap (λ (ys : List A). x ∷ ys) (all_kept (suc n) xs)

-- before the time that the list has for a platform, no message has arrived there
pub before_arrivals : (g : Graph) (i now : ℕ) (times : List ℕ) (airways : List AirwayView) → ArriveFrom g times airways → now < slice_index_or times i 0 → NoneHasCome g i now 0 airways
before_arrivals g i now times airways h early = λ k a at there. of k a at (slice_get g.links k) refl (subst (λ j. leads_to g i (slice_get g.links j) ≡ true) (same k) there)
  where
    same : (k : ℕ) → 0 + k ≡ k
    same k = omega arith

    of : (k : ℕ) (a : AirwayView) → slice_get airways k ≡ Some a → (found : Option Link) → slice_get g.links k ≡ found → leads_to g i found ≡ true → Each (λ (m : InAir). now < m.arrives) a.on_way
    of k a at None is there = absurd (false≢true there)
    of k a at (Some link) is there =
        let home : platform_of g link.to ≡ i = eqb-true (platform_of g link.to) i there in
        each_so (λ (m : InAir). slice_index_or times (platform_of g link.to) 0 ≤ m.arrives) (λ (m : InAir). now < m.arrives) a.on_way
        (λ m le. let same : slice_index_or times (platform_of g link.to) 0 ≡ slice_index_or times i 0 = ap (λ j. slice_index_or times j 0) home in omega (arith, le, same, early))
        (h k link a is at)

pub rested_visit_at : (air : Air) (now : ℕ) (dones : List Done) (old new : PlatformView) (airways : List AirwayView) → NoneHasCome old.plan.graph old.number now 0 airways → dones ≡ [] → HasRested old new (reading_at air old.number now)
    → WasVisitedAt air now dones dones old new airways airways
rested_visit_at air now dones old new airways none no_dones rested =
    let g : Graph = old.plan.graph in
    let come : List (List Message) = map_from (come_on g old.number now) 0 airways in
    let empty : come ≡ map (λ a. []) airways = all_none g old.number now 0 airways none in
    let left : map_from (left_on g old.number now) 0 airways ≡ airways = all_left g old.number now 0 airways none in
    let arrived : arriving g old.number 0 come ≡ [] = ap (arriving g old.number 0) empty ∙ none_arriving g old.number now 0 airways in
    let still : emptied g old.number 0 come ≡ come = ap (emptied g old.number 0) empty ∙ still_empty g old.number now 0 airways ∙ sym empty in
    let visited : IsVisited 64 (reading_at air old.number now) dones dones old new come come = rested_visit 64 (reading_at air old.number now) dones old new come come [] no_dones refl (sym arrived) (sym still) rested in
    visit_of air now dones dones old new airways airways come visited
    (sym (
    ap (map_from (λ k. put_link air g now k (slice_index_or come k [])) 0) left
    ∙ map_alike (λ k. put_link air g now k (slice_index_or come k [])) (λ k a. a)
    (λ k a. ap (λ (ms : List Message). put_link air g now k ms a) (ap (λ (ps : List (List Message)). slice_index_or ps k []) empty ∙ no_pipe airways k)) 0 airways
    ∙ all_kept 0 airways))
