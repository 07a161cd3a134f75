use Rattle.std.proofs.Common.{◌≡◌, ◌≤◌}
use Rattle.pt_sensor_files.specs.Asked.{Asks, files_before}
use Rattle.pt_sensor_files.proofs.Recording.{AreFirstRows}
use Rattle.pt_sensor_files.proofs.recorded_rows.recorded.Given as goal

abbrev pub invariant-loop-number : goal.invariant-loop-number
invariant-loop-number g l = record {
  rows : AreFirstRows l.late (g.S.Source.contents l.fn.source) l.graph l.all.items l.number;
  keeps : g.S.Source.contents l.source ≡ g.S.Source.contents l.fn.source;
  grows : g.S.Source.faults l.fn.source ≤ g.S.Source.faults l.source;
  quiet : g.S.Source.faults l.source ≡ g.S.Source.faults l.fn.source;
  asks : Asks (g.S.Source.asked l.fn.source) (g.S.Source.asked l.source) (files_before l.graph l.number);
}
