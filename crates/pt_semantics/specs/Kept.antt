-- How a history records turns: quiet turns in a row are joined to one.
use Rattle.std.specs.Prelude.{◌≡◌, ◌+◌, ◌^◌, ◌<◌, ◌++◌, ◌∷◌, ◌&&◌, if◌then◌else◌, [], List, nat_lt}
use Rattle.pt_semantics.specs.Turn.{Turn, is_quiet, joined}

-- the last two turns are joined if both are quiet and the sum of their counts fits in 64 bits
abbrev pub settled : List Turn → List Turn
settled [] = []
settled (x ∷ []) = x ∷ []
settled (x ∷ y ∷ []) = if is_quiet x && is_quiet y && nat_lt (x.count + y.count) (2 ^ 64) then joined x y ∷ [] else x ∷ y ∷ []
settled (x ∷ y ∷ z ∷ rest) = x ∷ settled (y ∷ z ∷ rest)

-- a history with one more turn; before it is added, the last two are joined if they can be
abbrev pub kept_with : List Turn → Turn → List Turn
kept_with history turn = settled history ++ turn ∷ []

-- a history with these turns added one by one
abbrev pub kept_from : List Turn → List Turn → List Turn
kept_from history [] = history
kept_from history (turn ∷ turns) = kept_from (kept_with history turn) turns

-- the history of these turns
abbrev pub kept : List Turn → List Turn
kept turns = kept_from [] turns

-- a single turn: it has one reading, which fits in 64 bits
pub record IsSingle (turn : Turn) : Type 0 where
  pub once : turn.count ≡ 1
  pub one_reading : turn.first ≡ turn.last
  pub fits : turn.last < 2 ^ 64
