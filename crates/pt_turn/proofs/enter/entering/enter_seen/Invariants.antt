use Rattle.std.proofs.Common.{◌≡◌, ◌+◌, ◌≤◌, ◌++◌, drop, length, map, vec_len, vec_capacity}
use Rattle.pt_semantics.specs.Entering.{due, not_due}
use Rattle.pt_semantics.specs.Floor.{NothingThere}
use Rattle.pt_semantics.specs.Meaning.{added}
use Rattle.pt_semantics.specs.Rows.{TimesRise}
use Rattle.pt_queue.specs.Events.{waiting_in}
use Rattle.pt_turn.specs.Fields.Sensors.{at_sensor, seen_at}
use Rattle.pt_turn.proofs.enter.entering.enter_seen.Given as goal

abbrev pub invariant-loop-index : goal.invariant-loop-index
invariant-loop-index l = record {
  times : TimesRise (drop l.index l.rows);
  never : NothingThere (waiting_in l.queue.events) (seen_at l.sensor (due l.reading (drop l.index l.rows)));
  waits : added (waiting_in l.queue.events) (seen_at l.sensor (due l.reading (drop l.index l.rows))) ≡ added (waiting_in l.fn.queue.events) (seen_at l.sensor (due l.reading (drop l.entered l.rows)));
  spare : l.queue.spare + length (due l.reading (drop l.entered l.rows)) ≡ l.fn.queue.spare + length (due l.reading (drop l.index l.rows));
  groups : l.queue.groups ≡ l.fn.queue.groups;
  rows : l.kept.items ++ map (at_sensor l.sensor) (due l.reading (drop l.index l.rows)) ≡ l.fn.kept.items ++ map (at_sensor l.sensor) (due l.reading (drop l.entered l.rows));
  len : vec_len l.kept + length (due l.reading (drop l.index l.rows)) ≡ vec_len l.fn.kept + length (due l.reading (drop l.entered l.rows));
  capacity : vec_capacity l.fn.kept ≤ vec_capacity l.kept;
  left : not_due l.reading (drop l.index l.rows) ≡ not_due l.reading (drop l.entered l.rows);
}
