use Rattle.std.proofs.Common.{◌-◌, ◌*◌, ◌/◌, ◌%◌, ◌≤◌, List, Option, length}
use Rattle.pt_types.specs.declared.firing.Task.{Task}
use Rattle.pt_types.specs.declared.graph.Unit.{Unit}
use Rattle.pt_queue.specs.declared.waiting.Waiting.{Waiting}
use Rattle.pt_queue.specs.Events.{waiting_in}
use Rattle.pt_turn.specs.Claims.Fronts.{AreFirst}
use Rattle.pt_turn.proofs.claim.asked.next_asked.Given as goal

abbrev pub invariant-loop-waiting : goal.invariant-loop-waiting
invariant-loop-waiting l = record {
  later : l.fn.from ≤ l.from;
  first : (cut : Option Waiting) (busy : Unit → Option Task) (cs : List Waiting) → AreFirst cut l.plan.graph (waiting_in l.fields.queue.events) busy l.reading (l.fn.from / 8) (l.fn.from % 8) cs → AreFirst cut l.plan.graph (waiting_in l.fields.queue.events) busy l.reading (l.from / 8) (l.from % 8) cs;
}

abbrev pub decreases-loop-waiting : goal.decreases-loop-waiting
decreases-loop-waiting l = 8 * length l.plan.graph.actors - l.from
