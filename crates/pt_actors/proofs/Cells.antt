-- The cells that have their outputs, and what is left for the others.
use Rattle.std.proofs.Common.{◌≡◌, ℕ, suc, ◌+◌, ◌<◌, ◌≤◌, min, List, [], ◌∷◌, Option, Some, None, ℤ, length, get_or, set, take, drop, refl, sym, ap, ap₂, ◌∙◌, arith, length-drop, length-set}
use Rattle.std.proofs.lemmas.List.{get_or-drop, take_min, drop_min, drop-drop}
use Rattle.std.proofs.lemmas.List.Edits.{fill_by_more}
use Rattle.std.proofs.lemmas.List.FromFn.{fill_by_all}
use Rattle.pt_types.specs.Ports.{eight, when}
use Rattle.pt_semantics.specs.Laws.{nearest}
use Rattle.pt_semantics.specs.Firing.{any_present, present_sum, lane_outputs}

-- what a cell of these inputs gives
abbrev pub cell_value : List (Option ℤ) → Option ℤ
cell_value inputs = when (any_present inputs) (Some (nearest (present_sum inputs)))

-- so many cells have their outputs
pub record Placed (cells : List ℕ) (inputs rest outputs : List (Option ℤ)) (p : ℕ) : Type 0 where
  pub size : length outputs ≡ 8
  pub small : length rest ≤ 8
  pub placed : (k : ℕ) → k < p → get_or outputs k None ≡ lane_outputs cells inputs k
  pub left : (k : ℕ) → lane_outputs (drop p cells) rest k ≡ lane_outputs cells inputs (p + k)

first_cell : (cells : List ℕ) (rest : List (Option ℤ)) → lane_outputs cells rest 0 ≡ cell_value (take (get_or cells 0 0) rest)
first_cell [] rest = refl
first_cell (n ∷ ns) rest = refl

later_cells : (cells : List ℕ) (rest : List (Option ℤ)) (k : ℕ) → lane_outputs cells rest (suc k) ≡ lane_outputs (drop 1 cells) (drop (get_or cells 0 0) rest) k
later_cells [] rest k = refl
later_cells (n ∷ ns) rest k = refl

pub place : (cells : List ℕ) (inputs rest outputs : List (Option ℤ)) (p n : ℕ) (value : Option ℤ) → p < 8 → Placed cells inputs rest outputs p
    → n ≡ min (get_or cells p 0) (length rest) → value ≡ cell_value (take n rest) → Placed cells inputs (drop n rest) (set outputs p value) (p + 1)
place cells inputs rest outputs p n value h was size is =
    let f = lane_outputs cells inputs in
    let here : get_or (drop p cells) 0 0 ≡ get_or cells p 0 = get_or-drop p cells 0 0 ∙ ap (λ i. get_or cells i 0) (omega arith) in
    let front : take n rest ≡ take (get_or cells p 0) rest = ap (λ m. take m rest) size ∙ take_min (get_or cells p 0) rest in
    let back : drop n rest ≡ drop (get_or cells p 0) rest = ap (λ m. drop m rest) size ∙ drop_min (get_or cells p 0) rest in
    let now : lane_outputs (drop p cells) rest 0 ≡ f p = was.left 0 ∙ ap f (omega arith) in
    let first : lane_outputs (drop p cells) rest 0 ≡ cell_value (take (get_or cells p 0) rest) = first_cell (drop p cells) rest ∙ ap (λ m. cell_value (take m rest)) here in
    let right : value ≡ f p = is ∙ ap cell_value front ∙ sym first ∙ now in
    let more : (k : ℕ) → k < p + 1 → get_or (set outputs p (f p)) k None ≡ f k = fill_by_more f outputs p None (omega (arith, was.size)) was.placed in
    record {
      size = length-set outputs p value ∙ was.size;
      small = omega (arith, length-drop n rest, was.small);
      placed = λ k less. ap (λ v. get_or (set outputs p v) k None) right ∙ more k less;
      left = λ k. ap₂ (λ ds xs. lane_outputs ds xs k) (sym (drop-drop 1 p cells)) (back ∙ ap (λ m. drop m rest) (sym here))
          ∙ sym (later_cells (drop p cells) rest k) ∙ was.left (suc k) ∙ ap f (omega arith);
    }

pub all_placed : (cells : List ℕ) (inputs rest outputs : List (Option ℤ)) (p : ℕ) → 8 ≤ p → Placed cells inputs rest outputs p → outputs ≡ eight (lane_outputs cells inputs)
all_placed cells inputs rest outputs p h was = fill_by_all (lane_outputs cells inputs) outputs 8 None was.size (λ k less. was.placed k (omega arith))
