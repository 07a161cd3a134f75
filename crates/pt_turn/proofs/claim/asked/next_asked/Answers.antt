use Rattle.std.proofs.Common.{◌+◌, ◌/◌, ◌%◌, sym, subst, arith}
use Rattle.pt_queue.specs.Events.{waiting_in}
use Rattle.pt_turn.specs.Claims.Fronts.{AreFirst}
use Rattle.pt_turn.proofs.Claims.Fronts.{event_is_unit, first_skip}
use Rattle.pt_turn.proofs.Claims.Passing.{behind_word, up_to_behind, up_to_end, up_to_next}
use Rattle.pt_turn.proofs.claim.asked.next_asked.Goals as goal

pub is_asked-requires-clause-unit : goal.is_asked-requires-clause-unit
is_asked-requires-clause-unit c = event_is_unit c.args.plan.now.graph c.args.fields.now c.in-Some.waiting.unit c.in-Some.waiting.tag c.requires.sound (c.in-Some.ensures c.args.plan.now.graph c.requires.sound.groups).0.0

pub is_asked-requires-clause-tag : goal.is_asked-requires-clause-tag
is_asked-requires-clause-tag c = (c.in-Some.ensures c.args.plan.now.graph c.requires.sound.groups).0

pub loop-waiting-preserved : goal.loop-waiting-preserved
loop-waiting-preserved c =
    let next = c.in-Some.ensures c.args.plan.now.graph c.requires.sound.groups in
    record {
      later = omega (arith, c.loop-waiting.invariant.later, next.1, c.place_of-place.ensures);
      first = λ cut busy cs start.
          subst (λ p. AreFirst cut c.args.plan.now.graph (waiting_in c.args.fields.now.queue.events) busy c.args.reading ((p + 1) / 8) ((p + 1) % 8) cs) (sym c.place_of-place.ensures)
          (up_to_behind cut c.args.plan.now.graph (waiting_in c.args.fields.now.queue.events) busy c.args.reading c.loop-waiting.from c.in-Some.waiting cs next
          (first_skip cut c.args.plan.now.graph (waiting_in c.args.fields.now.queue.events) busy c.args.reading c.in-Some.waiting.unit.actor c.in-Some.waiting.unit.group cs
          (up_to_next cut c.args.plan.now.graph (waiting_in c.args.fields.now.queue.events) busy c.args.reading c.loop-waiting.from c.in-Some.waiting cs next (c.loop-waiting.invariant.first cut busy cs start))
          (λ t. c.is_asked.ensures.waits c.if-is_asked.false busy t)));
    }

pub loop-waiting-smaller : goal.loop-waiting-smaller
loop-waiting-smaller c =
    let next = c.in-Some.ensures c.args.plan.now.graph c.requires.sound.groups in
    let unit = event_is_unit c.args.plan.now.graph c.args.fields.now c.in-Some.waiting.unit c.in-Some.waiting.tag c.requires.sound next.0.0 in
    let few = (next.2 c.in-Some.waiting.unit c.in-Some.waiting.tag next.0.0).0 in
    omega (arith, next.1, unit.0, few, c.place_of-place.ensures)

pub loop-waiting-preserved-then-is_passed_over : goal.loop-waiting-preserved-then-is_passed_over
loop-waiting-preserved-then-is_passed_over c =
    let next = c.in-Some.ensures c.args.plan.now.graph c.requires.sound.groups in
    record {
      later = omega (arith, c.loop-waiting.invariant.later, next.1, c.place_of-place.ensures, c.next_word-from.ensures);
      first = λ cut busy cs start. behind_word cut c.args.plan.now.graph (waiting_in c.args.fields.now.queue.events) busy c.args.reading c.loop-waiting.from c.place_of-place.result c.next_word-from.result c.in-Some.waiting cs c.place_of-place.ensures c.next_word-from.ensures next (c.is_passed_over.ensures c.if-is_passed_over.true) (c.loop-waiting.invariant.first cut busy cs start);
    }

pub loop-waiting-smaller-then-is_passed_over : goal.loop-waiting-smaller-then-is_passed_over
loop-waiting-smaller-then-is_passed_over c =
    let next = c.in-Some.ensures c.args.plan.now.graph c.requires.sound.groups in
    let unit = event_is_unit c.args.plan.now.graph c.args.fields.now c.in-Some.waiting.unit c.in-Some.waiting.tag c.requires.sound next.0.0 in
    let few = (next.2 c.in-Some.waiting.unit c.in-Some.waiting.tag next.0.0).0 in
    omega (arith, next.1, unit.0, few, c.place_of-place.ensures, c.next_word-from.ensures)

pub returns-then-is_asked-clause-first : goal.returns-then-is_asked-clause-first
returns-then-is_asked-clause-first c = λ cut busy cs start. up_to_next cut c.args.plan.now.graph (waiting_in c.args.fields.now.queue.events) busy c.args.reading c.loop-waiting.from c.in-Some.waiting cs (c.in-Some.ensures c.args.plan.now.graph c.requires.sound.groups) (c.loop-waiting.invariant.first cut busy cs start)

pub returns-then-is_asked-clause-asked : goal.returns-then-is_asked-clause-asked
returns-then-is_asked-clause-asked c = record {
  place = c.loop-waiting.from;
  later = c.loop-waiting.invariant.later;
  next = c.in-Some.ensures c.args.plan.now.graph c.requires.sound.groups;
  due = c.is_asked.ensures.due c.if-is_asked.true;
}

pub returns-clause-first : goal.returns-clause-first
returns-clause-first c = λ cut busy cs start. up_to_end cut c.args.plan.now.graph (waiting_in c.args.fields.now.queue.events) busy c.args.reading c.loop-waiting.from cs (c.in_default.ensures c.args.plan.now.graph c.requires.sound.groups) (c.loop-waiting.invariant.first cut busy cs start)
