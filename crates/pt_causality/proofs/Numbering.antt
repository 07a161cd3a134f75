-- The numbers of units: each actor's begin where the groups of the one before end.
use Rattle.std.proofs.Common.{◌≡◌, true, nat_lt, ◌≢◌, ℕ, ◌+◌, ◌-◌, ◌<◌, ◌≤◌, List, [], ◌∷◌, ◌++◌, map, take, drop, length, slice_index_or, refl, sym, ap, ◌∙◌, arith, ⊎_elim}
use Rattle.std.specs.Prelude.{sum}
use Rattle.std.proofs.lemmas.List.{map-append, take_more, take-append-drop, get_or_past, get_or_append_left, get_or-append_right}
use Rattle.std.proofs.lemmas.Bool.{cases_lt}
use Rattle.std.proofs.lemmas.Bool.Decides.{nat_tests}
use Rattle.std.proofs.lemmas.List.Sums.{sum_by-append, sum_by-cons}
use Rattle.pt_types.specs.declared.graph.Graph.{Graph}
use Rattle.pt_types.specs.declared.graph.Actor.{Actor}
use Rattle.pt_types.specs.declared.graph.Unit.{Unit}
use Rattle.pt_types.specs.declared.kind.Kind.{Kind}
use Rattle.pt_types.specs.declared.kind.Kind.TheVariants.{Lanes, Receive}
use Rattle.pt_types.specs.Groups.{held, actor_at, groups_of}
use Rattle.pt_types.specs.Lawful.{IsLawful, cell_count}
use Rattle.pt_types.specs.Groups.{no_actor}
use Rattle.pt_types.specs.Lookups.{kind_of}
use Rattle.pt_semantics.specs.Units.{groups}
use Rattle.pt_causality.specs.declared.units.Numbers.{Numbers}
use Rattle.pt_causality.specs.Cells.{first_in, number_in}
use Rattle.pt_causality.specs.Units.{IsUnit}
use Rattle.pt_causality.specs.Numbered.{AreNumbered}
use Rattle.pt_causality.proofs.Members.{cases_nat}

-- the cells of the first i actors
pub cells_until : Graph → ℕ → ℕ
cells_until g i = sum (map (λ (a : Actor). cell_count a.kind) (take i g.actors))

pub none_until : (g : Graph) → cells_until g 0 ≡ 0
unfolding cells_until
none_until g = refl

pub cells_more : (g : Graph) (i : ℕ) → i < length g.actors → cells_until g (i + 1) ≡ cells_until g i + cell_count (kind_of g i)
unfolding cells_until
cells_more g i h =
    let cells : Actor → ℕ = λ a. cell_count a.kind in
    ap (λ z. sum (map cells z)) (take_more g.actors i _ h)
    ∙ ap sum (map-append cells (take i g.actors) (slice_index_or g.actors i _ ∷ []))
    ∙ sum_by-append (λ n. n) (map cells (take i g.actors)) (cell_count (kind_of g i) ∷ [])
    ∙ ap (λ n. sum (map cells (take i g.actors)) + n) (sum_by-cons (λ n. n) (cell_count (kind_of g i)) [] ∙ omega arith)

pub few_until : (g : Graph) (i : ℕ) → IsLawful g → cells_until g i ≤ 1024
unfolding cells_until
few_until g i lawful =
    let cells : Actor → ℕ = λ a. cell_count a.kind in
    let both : sum (map cells (take i g.actors ++ drop i g.actors)) ≡ sum (map cells (take i g.actors)) + sum (map cells (drop i g.actors)) =
    ap sum (map-append cells (take i g.actors) (drop i g.actors)) ∙ sum_by-append (λ n. n) (map cells (take i g.actors)) (map cells (drop i g.actors)) in
    let all : sum (map cells (take i g.actors ++ drop i g.actors)) ≡ sum (map cells g.actors) = ap (λ z. sum (map cells z)) (take-append-drop i g.actors) in
    let few = lawful.few_cells in
    omega (arith, both, all, few)

groups_by_cells : (k : Kind) → groups k ≤ 1 + cell_count k
groups_by_cells (Lanes cells) = omega arith
groups_by_cells _ = omega arith

same_groups : (k : Kind) → groups_of k ≡ groups k
same_groups (Lanes cells) = refl
same_groups _ = refl

-- the number of units of the first i + 1 actors is small
pub step_few : (g : Graph) (i count : ℕ) → IsLawful g → i < length g.actors → count ≤ i + cells_until g i → (count + groups (kind_of g i) ≤ (i + 1) + cells_until g (i + 1)) × ((i + 1) + cells_until g (i + 1) ≤ 2048)
step_few g i count lawful less few =
    let more = cells_more g i less in
    let most = few_until g (i + 1) lawful in
    let own = groups_by_cells (kind_of g i) in
    let actors = lawful.few_actors in
    (omega (arith, more, own), omega (arith, most, actors))

held_same : (n : ℕ) → n ≤ 2048 → held n ≡ n
held_same n h = omega arith

pub groups_held : (g : Graph) (i count n : ℕ) → IsLawful g → i < length g.actors → count ≤ i + cells_until g i → n ≡ held (groups_of (actor_at g.actors i).kind) → n ≡ groups (kind_of g i)
groups_held g i count n lawful less few is =
    let steps = step_few g i count lawful less few in
    let own : groups_of (actor_at g.actors i).kind ≡ groups (kind_of g i) = same_groups (kind_of g i) in
    is ∙ ap held own ∙ held_same (groups (kind_of g i)) (let a = steps.0 in let b = steps.1 in omega arith)

-- one actor more is numbered
module _ (firsts next : List ℕ) (i count : ℕ) (len : length firsts ≡ i) (pushed : next ≡ firsts ++ count ∷ []) where
  pub first_last : first_in next i ≡ count
  first_last = ap (λ z. first_in z i) pushed ∙ get_or-append_right firsts (count ∷ []) i i 0 len (omega arith) ∙ ap (λ k. first_in (count ∷ []) k) (let none : i - i ≡ 0 = omega arith in none)

  pub first_before : (j : ℕ) → j < i → first_in next j ≡ first_in firsts j
  first_before j h = ap (λ z. first_in z j) pushed ∙ get_or_append_left firsts (count ∷ []) 0 j (omega arith)

  module _ (g : Graph) (ends : (j : ℕ) → j < i → first_in firsts j + groups (kind_of g j) ≤ count) where
    pub spaced_more : ((j k : ℕ) → j < k → k < i → first_in firsts j + groups (kind_of g j) ≤ first_in firsts k) → (j k : ℕ) → j < k → k < i + 1 → first_in next j + groups (kind_of g j) ≤ first_in next k
    spaced_more spaced j k less within = ⊎_elim
        (λ (old : k < i).
        let left = first_before j (omega arith) in
        let right = first_before k old in
        let was = spaced j k less old in
        omega (arith, left, right, was))
        (λ (last : i ≤ k).
        let here : k ≡ i = omega arith in
        let left = first_before j (omega arith) in
        let right : first_in next k ≡ count = ap (first_in next) here ∙ first_last in
        let was = ends j (omega arith) in
        omega (arith, left, right, was))
        (cases_lt k i)

    pub ends_more : (total : ℕ) → total ≡ count + groups (kind_of g i) → (j : ℕ) → j < i + 1 → first_in next j + groups (kind_of g j) ≤ total
    ends_more total is j within = ⊎_elim
        (λ (old : j < i).
        let left = first_before j old in
        let was = ends j old in
        omega (arith, left, was))
        (λ (last : i ≤ j).
        let here : j ≡ i = omega arith in
        let left : first_in next j ≡ count = ap (first_in next) here ∙ first_last in
        let own : groups (kind_of g j) ≡ groups (kind_of g i) = ap (λ k. groups (kind_of g k)) here in
        omega (arith, left, own))
        (cases_lt j i)

-- any actor has few groups
pub few_groups : (g : Graph) (a : ℕ) → IsLawful g → groups (kind_of g a) ≤ 2048
few_groups g a lawful = ⊎_elim
    (λ (less : a < length g.actors).
    let more = cells_more g a less in
    let most = few_until g (a + 1) lawful in
    let own = groups_by_cells (kind_of g a) in
    omega (arith, more, most, own))
    (λ (past : length g.actors ≤ a).
    let none : kind_of g a ≡ Receive = ap (λ (x : Actor). x.kind) (get_or_past g.actors a no_actor past) in
    let one : groups (kind_of g a) ≡ 1 = ap groups none in
    omega (arith, one))
    (cases_lt a (length g.actors))

-- what the numbers of first units say of the numbers of all
module _ (g : Graph) (n : Numbers) (spaced : (i j : ℕ) → i < j → j < length g.actors + 1 → first_in n.firsts.items i + groups (kind_of g i) ≤ first_in n.firsts.items j) (last : first_in n.firsts.items (length g.actors) ≡ n.count) (few : n.count ≤ 2048) where
  number_is : (u : Unit) → IsUnit g u → number_in n.firsts.items u ≡ first_in n.firsts.items u.actor + u.group
  unfolding number_in
  number_is u (actor, group) =
      let next = spaced u.actor (u.actor + 1) (omega arith) (omega arith) in
      let less : nat_lt (first_in n.firsts.items u.actor + u.group) (first_in n.firsts.items (u.actor + 1)) ≡ true = grind (arith, nat_tests) in
      rw less refl

  is_below : (u : Unit) → IsUnit g u → number_in n.firsts.items u < n.count
  is_below u unit =
      let is = number_is u unit in
      let end = spaced u.actor (length g.actors) unit.0 (omega arith) in
      let group = unit.1 in
      omega arith

  not_before : (u v : Unit) → IsUnit g u → IsUnit g v → number_in n.firsts.items u ≡ number_in n.firsts.items v → u.actor < v.actor → ⊥
  not_before u v one other same less =
      let left = number_is u one in
      let right = number_is v other in
      let apart = spaced u.actor v.actor less (let within = other.0 in omega arith) in
      let group = one.1 in
      omega arith

  same_actor : (u v : Unit) → IsUnit g u → IsUnit g v → number_in n.firsts.items u ≡ number_in n.firsts.items v → u.actor ≡ v.actor
  same_actor u v one other same = ⊎_elim
      (λ (e : u.actor ≡ v.actor). e)
      (λ (ne : u.actor ≢ v.actor). ⊎_elim
      (λ (less : u.actor < v.actor). absurd (not_before u v one other same less))
      (λ (more : v.actor ≤ u.actor). absurd (not_before v u other one (sym same) (omega arith)))
      (cases_lt u.actor v.actor))
      (cases_nat u.actor v.actor)

  are_apart : (u v : Unit) → IsUnit g u → IsUnit g v → number_in n.firsts.items u ≡ number_in n.firsts.items v → u ≡ v
  are_apart u v one other same =
      let actor : u.actor ≡ v.actor = same_actor u v one other same in
      let left = number_is u one in
      let right = number_is v other in
      let first : first_in n.firsts.items u.actor ≡ first_in n.firsts.items v.actor = ap (first_in n.firsts.items) actor in
      let group : u.group ≡ v.group = omega arith in
      λ i. record { actor = actor i; group = group i }

  pub numbered : AreNumbered g n
  numbered = record { few = few; below = is_below; apart = are_apart }
