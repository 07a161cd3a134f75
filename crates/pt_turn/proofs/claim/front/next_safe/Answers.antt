use Rattle.pt_queue.specs.Events.{waiting_in}
use Rattle.pt_turn.specs.Fields.State.{busy_in}
use Rattle.pt_turn.proofs.Claims.Fronts.{taken_next}
use Rattle.pt_turn.proofs.claim.front.next_safe.Goals as goal

pub returns : goal.returns
returns c = taken_next c.args.plan.now.graph (waiting_in c.args.fields.now.queue.events) (busy_in c.args.fields.now.open_claims.items) c.args.reading _ _ c.take.result c.take.ensures
