use Rattle.std.proofs.Common.{◌≡◌, ℕ, ◌+◌, ◌<◌, ◌≤◌, ◌++◌, drop, get_or, length, vec_len, vec_capacity}
use Rattle.pt_semantics.specs.Floor.{NothingThere}
use Rattle.pt_semantics.specs.Lists.{Each}
use Rattle.pt_semantics.specs.Meaning.{added}
use Rattle.pt_queue.specs.Events.{waiting_in}
use Rattle.pt_turn.specs.Fields.Sensors.{IsSensor, RiseFrom}
use Rattle.pt_turn.proofs.Enters.Sensors.{Entered, brought, no_sensor, due_rows}
use Rattle.pt_turn.proofs.enter.entering.enter.Given as goal

abbrev pub invariant-loop-i : goal.invariant-loop-i
invariant-loop-i l = record {
  count : length l.fields.sensors.items ≡ length l.fn.fields.sensors.items;
  before : (k : ℕ) → k < l.i → Entered l.reading (get_or l.fn.fields.sensors.items k no_sensor) (get_or l.fields.sensors.items k no_sensor);
  rest : (k : ℕ) → l.i ≤ k → get_or l.fields.sensors.items k no_sensor ≡ get_or l.fn.fields.sensors.items k no_sensor;
  rise : RiseFrom 0 (drop l.i l.fn.fields.sensors.items);
  each : Each (IsSensor l.graph) (drop l.i l.fn.fields.sensors.items);
  never : NothingThere (waiting_in l.fields.queue.events) (brought l.reading (drop l.i l.fn.fields.sensors.items));
  waits : added (waiting_in l.fields.queue.events) (brought l.reading (drop l.i l.fn.fields.sensors.items)) ≡ added (waiting_in l.fn.fields.queue.events) (brought l.reading l.fn.fields.sensors.items);
  spare : l.fields.queue.spare + length (due_rows l.reading l.fn.fields.sensors.items) ≡ l.fn.fields.queue.spare + length (due_rows l.reading (drop l.i l.fn.fields.sensors.items));
  groups : l.fields.queue.groups ≡ l.fn.fields.queue.groups;
  rows : l.kept.items ++ due_rows l.reading (drop l.i l.fn.fields.sensors.items) ≡ l.fn.kept.items ++ due_rows l.reading l.fn.fields.sensors.items;
  len : vec_len l.kept + length (due_rows l.reading (drop l.i l.fn.fields.sensors.items)) ≡ vec_len l.fn.kept + length (due_rows l.reading l.fn.fields.sensors.items);
  capacity : vec_capacity l.fn.kept ≤ vec_capacity l.kept;
  frame : (l.fields.open_claims ≡ l.fn.fields.open_claims) × (l.fields.states ≡ l.fn.fields.states) × (l.fields.outbox ≡ l.fn.fields.outbox) × (l.fields.reading ≡ l.fn.fields.reading) × (l.fields.closed ≡ l.fn.fields.closed) × (l.fields.claims ≡ l.fn.fields.claims);
}
