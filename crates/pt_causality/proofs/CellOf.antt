-- How the cell of an input is counted while the cells before it are passed.
use Rattle.std.proofs.Common.{◌≡◌, ℕ, ◌+◌, ◌-◌, ◌<◌, ◌≤◌, List, length, get_or, drop, arith, drop-cons, add-one, true, false}
use Rattle.std.specs.Prelude.{nat_lt}
use Rattle.std.proofs.lemmas.Bool.Decides.{nat_tests}
use Rattle.pt_types.specs.Groups.{cell_of}

-- the cell at hand has the input
pub found_here : (cells : List ℕ) (i left : ℕ) → i < length cells → left < get_or cells i 0 → i + cell_of (drop i cells) left ≡ i
found_here cells i left h less =
    let yes : nat_lt left (get_or cells i 0) ≡ true = grind (arith, nat_tests) in
    rw (drop-cons cells i 0) (rw yes (omega arith))

-- it stands further on
pub further_on : (cells : List ℕ) (i left : ℕ) → i < length cells → get_or cells i 0 ≤ left → (i + 1) + cell_of (drop (i + 1) cells) (left - get_or cells i 0) ≡ i + cell_of (drop i cells) left
further_on cells i left h more =
    let no : nat_lt left (get_or cells i 0) ≡ false = grind (arith, nat_tests) in
    rw (drop-cons cells i 0) (rw no (rw add-one (omega arith)))
