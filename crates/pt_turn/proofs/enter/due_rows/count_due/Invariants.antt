use Rattle.std.proofs.Common.{◌≡◌, ◌+◌, drop, length}
use Rattle.pt_semantics.specs.Lists.{Each}
use Rattle.pt_turn.specs.Fields.Sensors.{IsSensor}
use Rattle.pt_turn.proofs.Enters.Sensors.{due_rows}
use Rattle.pt_turn.proofs.enter.due_rows.count_due.Given as goal

abbrev pub invariant-loop-sensor : goal.invariant-loop-sensor
invariant-loop-sensor l = record {
  so_far : l.count + length (due_rows l.reading (drop l.sensor-index l.sensors)) ≡ length (due_rows l.reading l.sensors);
  each : Each (IsSensor l.graph) (drop l.sensor-index l.sensors);
}
