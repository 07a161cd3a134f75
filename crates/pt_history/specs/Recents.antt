-- The last heads of a history.
use Rattle.std.specs.Prelude.{◌≡◌, ◌+◌, ℕ, List, [], ◌∷◌, Some, length, slice_get}
use Rattle.pt_history.specs.declared.head.Head.{Head}
use Rattle.pt_history.specs.declared.heads.Recent.{Recent}
use Rattle.pt_history.specs.declared.heads.Recent.TheVariants.{Empty, One, TwoSingles, Two}
use Rattle.pt_history.specs.Heads.{single}

-- the recent heads as a list; the last is of a single turn
abbrev pub heads_in : Recent → List Head
heads_in Empty = []
heads_in (One reading) = single reading ∷ []
heads_in (TwoSingles before reading) = single before ∷ single reading ∷ []
heads_in (Two before reading) = before ∷ single reading ∷ []

-- the last two heads of a list
pub record EndWith (heads : List Head) (before last : Head) : Type 0 where
  pub number : ℕ
  pub are_last : number + 2 ≡ length heads
  pub before_is : slice_get heads number ≡ Some before
  pub last_is : slice_get heads (number + 1) ≡ Some last
