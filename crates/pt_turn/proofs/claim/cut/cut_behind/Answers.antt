use Rattle.std.proofs.Common.{arith}
use Rattle.pt_turn.proofs.Claims.Fronts.{event_is_unit}
use Rattle.pt_turn.proofs.claim.cut.cut_behind.Goals as goal

pub loop-waiting-smaller : goal.loop-waiting-smaller
loop-waiting-smaller c =
    let next = c.in-Some.ensures c.args.plan.now.graph c.requires.sound.groups in
    let unit = event_is_unit c.args.plan.now.graph c.args.fields.now c.in-Some.waiting.unit c.in-Some.waiting.tag c.requires.sound next.0.0 in
    let few = (next.2 c.in-Some.waiting.unit c.in-Some.waiting.tag next.0.0).0 in
    omega (arith, next.1, unit.0, few, c.place_of-place.ensures)

pub loop-waiting-smaller-then-is_passed_over : goal.loop-waiting-smaller-then-is_passed_over
loop-waiting-smaller-then-is_passed_over c =
    let next = c.in-Some.ensures c.args.plan.now.graph c.requires.sound.groups in
    let unit = event_is_unit c.args.plan.now.graph c.args.fields.now c.in-Some.waiting.unit c.in-Some.waiting.tag c.requires.sound next.0.0 in
    let few = (next.2 c.in-Some.waiting.unit c.in-Some.waiting.tag next.0.0).0 in
    omega (arith, next.1, unit.0, few, c.place_of-place.ensures, c.next_word-from.ensures)
