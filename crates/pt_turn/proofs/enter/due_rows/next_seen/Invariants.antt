use Rattle.std.proofs.Common.{ℕ, ◌<◌}
use Rattle.pt_turn.proofs.NoRows.{NoneAt}
use Rattle.pt_turn.proofs.enter.due_rows.next_seen.Given as goal

abbrev pub invariant-loop-sensor : goal.invariant-loop-sensor
invariant-loop-sensor l = (r k : ℕ) → r < l.least → k < l.sensor-index → NoneAt r l.sensors k
