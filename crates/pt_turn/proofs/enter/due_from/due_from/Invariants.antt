use Rattle.std.proofs.Common.{◌≤◌, take}
use Rattle.pt_turn.proofs.Enters.Due.{NoneDueOf}
use Rattle.pt_turn.proofs.enter.due_from.due_from.Given as goal

abbrev pub invariant-loop-row : goal.invariant-loop-row
invariant-loop-row l = record {
  no_later : l.least ≤ l.fn.so_far;
  due : NoneDueOf l.offsets (take l.row-index l.rows) l.least;
}
