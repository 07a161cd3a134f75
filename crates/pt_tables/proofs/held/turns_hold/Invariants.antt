use Rattle.std.proofs.Common.{◌≡◌, ◌<◌, ◌/◌, ℕ, Some, slice_get}
use Rattle.pt_semantics.specs.Lists.{Each}
use Rattle.pt_semantics.specs.Turn.{Turn}
use Rattle.pt_history.specs.Levels.{AreTurnLevels}
use Rattle.pt_tables.specs.Held.{HasHeldHead, IsHeldMessage}
use Rattle.pt_tables.proofs.held.turns_hold.Given as goal

abbrev pub invariant-loop-number : goal.invariant-loop-number
invariant-loop-number l = record {
  levels : AreTurnLevels l.history.turns (l.number / 64) l.levels;
  held : (k : ℕ) (turn : Turn) → k < l.number → slice_get l.history.turns k ≡ Some turn → HasHeldHead turn × Each IsHeldMessage turn.taken × Each IsHeldMessage turn.sent;
}
