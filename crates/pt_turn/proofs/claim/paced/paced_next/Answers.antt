use Rattle.std.proofs.Common.{◌+◌, ◌∙◌, length, eqb-true, sym, subst, arith}
use Rattle.pt_turn.specs.Claims.Least.{AtOrIn, IsLeastAmong}
use Rattle.pt_turn.proofs.Claims.Candidates.{before_all, before_more, before_none, PacedBefore}
use Rattle.pt_turn.proofs.Claims.Fronts.{event_is_unit}
use Rattle.pt_turn.proofs.Claims.Units.{none_busy}
use Rattle.pt_turn.proofs.claim.paced.paced_next.Goals as goal

pub loop-waiting-init : goal.loop-waiting-init
loop-waiting-init c = before_none c.args.plan.now.graph c.args.fields.now c.args.so_far

pub sooner_of_free_unit-least-requires-clause-tag : goal.sooner_of_free_unit-least-requires-clause-tag
sooner_of_free_unit-least-requires-clause-tag c = (c.in-Some.ensures c.args.plan.now.graph c.requires.sound.groups).0

pub sooner_of_free_unit-least-requires-clause-free : goal.sooner_of_free_unit-least-requires-clause-free
sooner_of_free_unit-least-requires-clause-free c =
    none_busy c.args.fields.now.open_claims.items c.in-Some.waiting.unit (eqb-true (length c.args.fields.now.open_claims.items) 0 (sym c.is_empty.ensures ∙ c.if-not-is_empty.false))

pub loop-waiting-preserved : goal.loop-waiting-preserved
loop-waiting-preserved c = subst (λ p. IsLeastAmong (AtOrIn c.args.so_far (PacedBefore c.args.plan.now.graph c.args.fields.now (p + 1))) c.sooner_of_free_unit-least.result) (sym c.place_of-from.ensures)
    (before_more c.args.plan.now.graph c.args.fields.now c.args.so_far c.loop-waiting.least c.sooner_of_free_unit-least.result c.loop-waiting.from c.in-Some.waiting c.requires.sound (c.in-Some.ensures c.args.plan.now.graph c.requires.sound.groups) c.loop-waiting.invariant c.sooner_of_free_unit-least.ensures)

pub loop-waiting-smaller : goal.loop-waiting-smaller
loop-waiting-smaller c =
    let next = c.in-Some.ensures c.args.plan.now.graph c.requires.sound.groups in
    let unit = event_is_unit c.args.plan.now.graph c.args.fields.now c.in-Some.waiting.unit c.in-Some.waiting.tag c.requires.sound next.0.0 in
    let few = (next.2 c.in-Some.waiting.unit c.in-Some.waiting.tag next.0.0).0 in
    omega (arith, next.1, unit.0, few, c.place_of-from.ensures)

pub returns : goal.returns
returns c = before_all c.args.plan.now.graph c.args.fields.now c.args.so_far c.loop-waiting.least c.loop-waiting.from (c.in_default.ensures c.args.plan.now.graph c.requires.sound.groups) c.loop-waiting.invariant
