use Rattle.std.proofs.Common.{None, ◌+◌, ◌/◌, ◌%◌, [], refl, sym, subst, arith}
use Rattle.pt_queue.specs.Events.{waiting_in}
use Rattle.pt_turn.specs.Fields.State.{busy_in}
use Rattle.pt_turn.specs.Claims.Fronts.{AreFirst, one_of}
use Rattle.pt_turn.proofs.Claims.Fronts.{event_is_unit, first_none, front_alone}
use Rattle.pt_turn.proofs.Claims.Passing.{up_to_behind, up_to_end, up_to_next}
use Rattle.pt_turn.proofs.claim.front.alone.Goals as goal

pub loop-waiting-init : goal.loop-waiting-init
loop-waiting-init c = first_none None c.args.plan.now.graph (waiting_in c.args.fields.now.queue.events) (busy_in c.args.fields.now.open_claims.items) c.args.reading [] refl

pub alone_with-requires-clause-unit : goal.alone_with-requires-clause-unit
alone_with-requires-clause-unit c = event_is_unit c.args.plan.now.graph c.args.fields.now c.in-Some.waiting.unit c.in-Some.waiting.tag c.requires.sound (c.in-Some.ensures c.args.plan.now.graph c.requires.sound.groups).0.0

pub alone_with-requires-clause-tag : goal.alone_with-requires-clause-tag
alone_with-requires-clause-tag c = (c.in-Some.ensures c.args.plan.now.graph c.requires.sound.groups).0

pub alone_with-requires-clause-first : goal.alone_with-requires-clause-first
alone_with-requires-clause-first c = up_to_next None c.args.plan.now.graph (waiting_in c.args.fields.now.queue.events) (busy_in c.args.fields.now.open_claims.items) c.args.reading c.loop-waiting.from c.in-Some.waiting (one_of c.loop-waiting.alone) (c.in-Some.ensures c.args.plan.now.graph c.requires.sound.groups) c.loop-waiting.invariant

pub loop-waiting-preserved : goal.loop-waiting-preserved
loop-waiting-preserved c = subst (λ p. AreFirst None c.args.plan.now.graph (waiting_in c.args.fields.now.queue.events) (busy_in c.args.fields.now.open_claims.items) c.args.reading ((p + 1) / 8) ((p + 1) % 8) (one_of c.in_ok-alone.alone)) (sym c.place_of-from.ensures)
    (up_to_behind None c.args.plan.now.graph (waiting_in c.args.fields.now.queue.events) (busy_in c.args.fields.now.open_claims.items) c.args.reading c.loop-waiting.from c.in-Some.waiting (one_of c.in_ok-alone.alone) (c.in-Some.ensures c.args.plan.now.graph c.requires.sound.groups) c.in_ok-alone.ensures.alone)

pub loop-waiting-smaller : goal.loop-waiting-smaller
loop-waiting-smaller c =
    let next = c.in-Some.ensures c.args.plan.now.graph c.requires.sound.groups in
    let unit = event_is_unit c.args.plan.now.graph c.args.fields.now c.in-Some.waiting.unit c.in-Some.waiting.tag c.requires.sound next.0.0 in
    let few = (next.2 c.in-Some.waiting.unit c.in-Some.waiting.tag next.0.0).0 in
    omega (arith, next.1, unit.0, few, c.place_of-from.ensures)

pub returns-clause-alone : goal.returns-clause-alone
returns-clause-alone c = front_alone c.args.plan.now.graph c.args.fields.now c.args.reading c.loop-waiting.alone c.requires.sound
    (up_to_end None c.args.plan.now.graph (waiting_in c.args.fields.now.queue.events) (busy_in c.args.fields.now.open_claims.items) c.args.reading c.loop-waiting.from (one_of c.loop-waiting.alone) (c.in_default.ensures c.args.plan.now.graph c.requires.sound.groups) c.loop-waiting.invariant)
