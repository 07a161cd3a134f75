use Rattle.std.proofs.Common.{◌≡◌, ◌+◌, ◌≤◌, drop, length}
use Rattle.pt_semantics.specs.Entering.{due}
use Rattle.pt_turn.proofs.enter.due_rows.count_seen.Given as goal

abbrev pub invariant-loop-index : goal.invariant-loop-index
invariant-loop-index l = record {
  so_far : length (due l.reading (drop l.entered l.rows)) + l.entered ≡ l.index + length (due l.reading (drop l.index l.rows));
  from : l.entered ≤ l.index;
}
