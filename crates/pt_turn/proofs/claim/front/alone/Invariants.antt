use Rattle.std.proofs.Common.{None, ◌-◌, ◌*◌, ◌/◌, ◌%◌, length}
use Rattle.pt_queue.specs.Events.{waiting_in}
use Rattle.pt_turn.specs.Fields.State.{busy_in}
use Rattle.pt_turn.specs.Claims.Fronts.{AreFirst, one_of}
use Rattle.pt_turn.proofs.claim.front.alone.Given as goal

abbrev pub invariant-loop-waiting : goal.invariant-loop-waiting
invariant-loop-waiting l = AreFirst None l.plan.graph (waiting_in l.fields.queue.events) (busy_in l.fields.open_claims.items) l.reading (l.from / 8) (l.from % 8) (one_of l.alone)

abbrev pub decreases-loop-waiting : goal.decreases-loop-waiting
decreases-loop-waiting l = 8 * length l.plan.graph.actors - l.from
