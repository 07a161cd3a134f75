use Rattle.std.proofs.Common.{◌+◌, ◌/◌, ◌%◌, sym, subst, arith, rules}
use Rattle.pt_queue.specs.Events.{waiting_in}
use Rattle.pt_turn.specs.Fields.State.{busy_in}
use Rattle.pt_turn.specs.Claims.Fronts.{AreFirst}
use Rattle.pt_turn.proofs.Claims.Fronts.{event_is_unit, first_none}
use Rattle.pt_turn.proofs.Claims.Passing.{up_to_behind}
use Rattle.pt_turn.proofs.claim.front.fill.Goals as goal

pub loop-waiting-init : goal.loop-waiting-init
loop-waiting-init c = (first_none c.args.cut c.args.plan.now.graph (waiting_in c.args.fields.now.queue.events) (busy_in c.args.fields.now.open_claims.items) c.args.reading c.clear.new.self.items c.clear.ensures, search rules)

pub add_unit-ahead-requires-clause-unit : goal.add_unit-ahead-requires-clause-unit
add_unit-ahead-requires-clause-unit c = event_is_unit c.args.plan.now.graph c.args.fields.now c.in-Some.waiting.unit c.in-Some.waiting.tag c.requires.sound c.in-Some.ensures.asked.next.0.0

pub add_unit-ahead-requires-clause-tag : goal.add_unit-ahead-requires-clause-tag
add_unit-ahead-requires-clause-tag c = c.in-Some.ensures.asked.next.0

pub add_unit-ahead-requires-clause-due : goal.add_unit-ahead-requires-clause-due
add_unit-ahead-requires-clause-due c = c.in-Some.ensures.asked.due

pub add_unit-ahead-requires-clause-first : goal.add_unit-ahead-requires-clause-first
add_unit-ahead-requires-clause-first c = c.in-Some.ensures.first c.args.cut (busy_in c.args.fields.now.open_claims.items) c.loop-waiting.units.items c.loop-waiting.invariant.0

pub add_unit-ahead-requires-clause-ahead : goal.add_unit-ahead-requires-clause-ahead
add_unit-ahead-requires-clause-ahead c = c.loop-waiting.invariant.1

pub loop-waiting-preserved : goal.loop-waiting-preserved
loop-waiting-preserved c = (
  subst (λ p. AreFirst c.args.cut c.args.plan.now.graph (waiting_in c.args.fields.now.queue.events) (busy_in c.args.fields.now.open_claims.items) c.args.reading ((p + 1) / 8) ((p + 1) % 8) c.add_unit-ahead.new.units.items) (sym c.place_of-from.ensures)
      (up_to_behind c.args.cut c.args.plan.now.graph (waiting_in c.args.fields.now.queue.events) (busy_in c.args.fields.now.open_claims.items) c.args.reading c.in-Some.ensures.asked.place c.in-Some.waiting c.add_unit-ahead.new.units.items c.in-Some.ensures.asked.next c.add_unit-ahead.ensures.first),
  c.add_unit-ahead.ensures.ahead,
)

pub loop-waiting-smaller : goal.loop-waiting-smaller
loop-waiting-smaller c =
    let asked = c.in-Some.ensures.asked in
    let next = asked.next in
    let unit = event_is_unit c.args.plan.now.graph c.args.fields.now c.in-Some.waiting.unit c.in-Some.waiting.tag c.requires.sound next.0.0 in
    let few = (next.2 c.in-Some.waiting.unit c.in-Some.waiting.tag next.0.0).0 in
    omega (arith, asked.later, next.1, unit.0, few, c.place_of-from.ensures)

pub returns : goal.returns
returns c = c.in_default.ensures.first c.args.cut (busy_in c.args.fields.now.open_claims.items) c.loop-waiting.units.items c.loop-waiting.invariant.0
