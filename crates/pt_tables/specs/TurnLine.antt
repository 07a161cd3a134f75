-- The line of a turn, with the numbers in it.
use Rattle.std.specs.Prelude.{◌≡◌, ◌≤◌, ◌++◌, ◌∷◌, [], ℕ, List, Some, codes, length, option_map, slice_get}
use Rattle.pt_history.specs.Turns.{turn_head}
use Rattle.pt_semantics.specs.Turn.{Turn}
use Rattle.pt_tables.specs.declared.turn_line.TurnLine.{TurnLine}
use Rattle.pt_tables.specs.Log.{turn_line}

-- what the lines of a platform begin with is right, and its name is short
pub record HasHead (t : TurnLine) : Type 0 where
  pub short : length t.platform.now ≤ 32
  pub begins : t.head ≡ codes "turn," ++ t.platform.now ++ 44 ∷ []

-- and the line is that of a turn of its platform with its numbers
pub record IsKeptLine (t : TurnLine) : Type 0 where
  pub head : HasHead t
  pub line : t.line ≡ turn_line t.platform.now t.first t.last t.count

-- turn n is there, and the line's readings and count are its own
abbrev pub HasNumbersOf : List Turn → ℕ → TurnLine → Type 0
HasNumbersOf turns n t = option_map turn_head (slice_get turns n) ≡ Some (record { first = t.first; last = t.last; count = t.count })
