use Rattle.std.proofs.Common.{◌+◌, sym, subst, arith}
use Rattle.pt_turn.specs.Claims.Least.{AtOrIn, IsLeastAmong}
use Rattle.pt_turn.proofs.Claims.Candidates.{before_all, before_more, before_word, before_none, PacedBefore}
use Rattle.pt_turn.proofs.Claims.Fronts.{event_is_unit}
use Rattle.pt_turn.proofs.claim.paced.paced_next_of_many.Goals as goal

pub loop-waiting-init : goal.loop-waiting-init
loop-waiting-init c = before_none c.args.plan.now.graph c.args.fields.now c.args.so_far

pub sooner_of_unit-least-requires-clause-tag : goal.sooner_of_unit-least-requires-clause-tag
sooner_of_unit-least-requires-clause-tag c = (c.in-Some.ensures c.args.plan.now.graph c.requires.sound.groups).0

pub loop-waiting-preserved : goal.loop-waiting-preserved
loop-waiting-preserved c = subst (λ p. IsLeastAmong (AtOrIn c.args.so_far (PacedBefore c.args.plan.now.graph c.args.fields.now (p + 1))) c.sooner_of_unit-least.result) (sym c.place_of-place.ensures)
    (before_more c.args.plan.now.graph c.args.fields.now c.args.so_far c.loop-waiting.least c.sooner_of_unit-least.result c.loop-waiting.from c.in-Some.waiting c.requires.sound (c.in-Some.ensures c.args.plan.now.graph c.requires.sound.groups) c.loop-waiting.invariant c.sooner_of_unit-least.ensures)

pub loop-waiting-smaller : goal.loop-waiting-smaller
loop-waiting-smaller c =
    let next = c.in-Some.ensures c.args.plan.now.graph c.requires.sound.groups in
    let unit = event_is_unit c.args.plan.now.graph c.args.fields.now c.in-Some.waiting.unit c.in-Some.waiting.tag c.requires.sound next.0.0 in
    let few = (next.2 c.in-Some.waiting.unit c.in-Some.waiting.tag next.0.0).0 in
    omega (arith, next.1, unit.0, few, c.place_of-place.ensures)

pub returns : goal.returns
returns c = before_all c.args.plan.now.graph c.args.fields.now c.args.so_far c.loop-waiting.least c.loop-waiting.from (c.in_default.ensures c.args.plan.now.graph c.requires.sound.groups) c.loop-waiting.invariant

pub loop-waiting-preserved-then-is_passed_over : goal.loop-waiting-preserved-then-is_passed_over
loop-waiting-preserved-then-is_passed_over c =
    before_word c.args.plan.now.graph c.args.fields.now c.args.so_far c.loop-waiting.least c.saturating_sub-before.result c.loop-waiting.from c.place_of-place.result c.next_word-from.result c.in-Some.waiting
    c.saturating_sub-before.ensures c.place_of-place.ensures c.next_word-from.ensures (c.in-Some.ensures c.args.plan.now.graph c.requires.sound.groups) (c.is_passed_over.ensures c.if-is_passed_over.true) c.loop-waiting.invariant

pub loop-waiting-smaller-then-is_passed_over : goal.loop-waiting-smaller-then-is_passed_over
loop-waiting-smaller-then-is_passed_over c =
    let next = c.in-Some.ensures c.args.plan.now.graph c.requires.sound.groups in
    let unit = event_is_unit c.args.plan.now.graph c.args.fields.now c.in-Some.waiting.unit c.in-Some.waiting.tag c.requires.sound next.0.0 in
    let few = (next.2 c.in-Some.waiting.unit c.in-Some.waiting.tag next.0.0).0 in
    omega (arith, next.1, unit.0, few, c.place_of-place.ensures, c.next_word-from.ensures)
