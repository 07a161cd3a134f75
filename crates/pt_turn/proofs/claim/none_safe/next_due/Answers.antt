use Rattle.std.proofs.Common.{◌+◌, sym, subst, arith}
use Rattle.pt_queue.specs.Events.{waiting_in}
use Rattle.pt_turn.proofs.Claims.Fronts.{event_is_unit}
use Rattle.pt_turn.proofs.Claims.NotDue.{NotDueBelow, below_all, below_more, below_none}
use Rattle.pt_turn.proofs.claim.none_safe.next_due.Goals as goal

pub loop-waiting-init : goal.loop-waiting-init
loop-waiting-init c = below_none c.args.plan.now.graph (waiting_in c.args.fields.now.queue.events) c.args.reading _

pub loop-waiting-preserved : goal.loop-waiting-preserved
loop-waiting-preserved c = subst (λ p. NotDueBelow c.args.plan.now.graph (waiting_in c.args.fields.now.queue.events) c.args.reading (p + 1) c.sooner_due-least.result) (sym c.place_of-from.ensures)
    (below_more c.args.plan.now.graph (waiting_in c.args.fields.now.queue.events) c.args.reading c.loop-waiting.from c.loop-waiting.least c.sooner_due-least.result c.in-Some.waiting (c.in-Some.ensures c.args.plan.now.graph c.requires.sound.groups) c.loop-waiting.invariant c.sooner_due-least.ensures.no_later c.sooner_due-least.ensures.due)

pub loop-waiting-smaller : goal.loop-waiting-smaller
loop-waiting-smaller c =
    let next = c.in-Some.ensures c.args.plan.now.graph c.requires.sound.groups in
    let unit = event_is_unit c.args.plan.now.graph c.args.fields.now c.in-Some.waiting.unit c.in-Some.waiting.tag c.requires.sound next.0.0 in
    let few = (next.2 c.in-Some.waiting.unit c.in-Some.waiting.tag next.0.0).0 in
    omega (arith, next.1, unit.0, few, c.place_of-from.ensures)

pub returns : goal.returns
returns c = below_all c.args.plan.now.graph (waiting_in c.args.fields.now.queue.events) c.args.reading c.loop-waiting.from c.loop-waiting.least (c.in_default.ensures c.args.plan.now.graph c.requires.sound.groups) c.loop-waiting.invariant
