use Rattle.std.proofs.Common.{◌-◌, ◌*◌, length}
use Rattle.pt_queue.specs.Events.{waiting_in}
use Rattle.pt_turn.proofs.Claims.NotDue.{NotDueBelow}
use Rattle.pt_turn.proofs.claim.none_safe.next_due.Given as goal

abbrev pub invariant-loop-waiting : goal.invariant-loop-waiting
invariant-loop-waiting l = NotDueBelow l.plan.graph (waiting_in l.fields.queue.events) l.reading l.from l.least

abbrev pub decreases-loop-waiting : goal.decreases-loop-waiting
decreases-loop-waiting l = 8 * length l.plan.graph.actors - l.from
