use Rattle.std.proofs.Common.{◌≡◌, filter, not}
use Rattle.pt_sensors.specs.declared.sensor_rows.SensorRows.{SensorRows as Entry}
use Rattle.pt_turn.specs.Sharing.{is_entry_on}
use Rattle.pt_turn.proofs.rows_by_platform.parted.Given as goal

abbrev pub invariant-loop-entry : goal.invariant-loop-entry
invariant-loop-entry l = record {
  own : l.own.items ≡ filter (is_entry_on l.graph l.number) l.yielded;
  others : l.others.items ≡ filter (λ (s : Entry). not (is_entry_on l.graph l.number s)) l.yielded;
}
