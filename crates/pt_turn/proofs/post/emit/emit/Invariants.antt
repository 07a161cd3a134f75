use Rattle.std.proofs.Common.{◌≡◌, ◌≤◌, ◌+◌, ◌-◌, Some, take, map, length}
use Rattle.std.specs.Prelude.{slice_get}
use Rattle.pt_types.specs.declared.graph.Wire.{Wire}
use Rattle.pt_semantics.specs.Edges.{of_wire}
use Rattle.pt_semantics.specs.Units.{leaves_unit}
use Rattle.pt_semantics.specs.Meaning.{added, going}
use Rattle.pt_queue.specs.Events.{waiting_in}
use Rattle.pt_turn.specs.Posts.Room.{leaving}
use Rattle.pt_turn.proofs.post.emit.emit.Given as goal

abbrev pub invariant-branches : goal.invariant-branches
invariant-branches l = record {
  waits : waiting_in l.queue.events ≡ added (waiting_in l.fn.queue.events) (going l.graph (map (of_wire l.graph) (take l.place l.graph.wires)) (leaves_unit l.graph l.unit) l.tag l.outputs);
  groups : l.queue.groups ≡ l.fn.queue.groups;
  spare : l.fn.queue.spare ≤ l.queue.spare + leaving l.graph l.unit (take l.place l.graph.wires);
  is : (w : Wire) → slice_get l.graph.wires l.place ≡ Some w → w.from ≡ l.unit.actor;
}

abbrev pub decreases-branches : goal.decreases-branches
decreases-branches l = length l.graph.wires - l.place
