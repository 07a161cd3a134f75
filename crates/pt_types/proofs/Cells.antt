-- How the cell of an input is counted while the cells before it are passed.
use Rattle.std.proofs.Common.{◌≡◌, ℕ, ◌+◌, ◌-◌, ◌<◌, ◌≤◌, List, length, get_or, drop, refl, ap, add-one, arith, drop-cons, Option, Some, None, true, false}
use Rattle.std.specs.Prelude.{nat_lt, option_map, suc}
use Rattle.std.proofs.lemmas.Bool.Decides.{nat_tests}
use Rattle.pt_types.specs.Groups.{cell_at}

-- so many cells further
abbrev pub shifted : ℕ → Option ℕ → Option ℕ
shifted i None = None
shifted i (Some cell) = Some (i + cell)

pub shifted-zero : (o : Option ℕ) → shifted 0 o ≡ o
shifted-zero None = refl
shifted-zero (Some cell) = ap Some (omega arith)

pub shifted-suc : (i : ℕ) (o : Option ℕ) → shifted i (option_map suc o) ≡ shifted (i + 1) o
shifted-suc i None = refl
shifted-suc i (Some cell) = ap Some (omega arith)

-- the cell at hand has the input
pub found_here : (cells : List ℕ) (i left : ℕ) → i < length cells → left < get_or cells i 0 → shifted i (cell_at (drop i cells) left) ≡ Some i
found_here cells i left h less =
    let yes : nat_lt left (get_or cells i 0) ≡ true = grind (arith, nat_tests) in
    rw (drop-cons cells i 0) (rw yes (ap Some (omega arith)))

-- it stands further on
pub further_on : (cells : List ℕ) (i left : ℕ) → i < length cells → get_or cells i 0 ≤ left
    → shifted (i + 1) (cell_at (drop (i + 1) cells) (left - get_or cells i 0)) ≡ shifted i (cell_at (drop i cells) left)
further_on cells i left h more =
    let no : nat_lt left (get_or cells i 0) ≡ false = grind (arith, nat_tests) in
    rw (drop-cons cells i 0) (rw no (rw (shifted-suc, add-one) refl))
