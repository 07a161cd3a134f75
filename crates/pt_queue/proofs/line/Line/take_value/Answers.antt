use Rattle.std.proofs.Common.{not, filter, drop, subst, sym, ◌∙◌, ap}
use Rattle.pt_tags.specs.Tags.{same_tag}
use Rattle.pt_types.specs.declared.firing.Event.{Event}
use Rattle.pt_queue.specs.Lines.{TagsRise}
use Rattle.pt_queue.proofs.Rising.{ahead, first_taken, in_order_filter, no_value, none_taken}
use Rattle.pt_queue.proofs.line.Line.take_value.Goals as goal

pub invariant_of-self-2 : goal.invariant_of-self-2
invariant_of-self-2 c =
    subst TagsRise (sym c.take_behind.ensures.left) (in_order_filter (λ (e : Event). not (same_tag c.args.tag e.tag)) c.self.inside.events.items c.self.invariant)

pub returns-clause-left : goal.returns-clause-left
returns-clause-left c =
    c.take_behind.ensures.left
    ∙ ap (filter (λ (e : Event). not (same_tag c.args.tag e.tag))) c.self.view_is

pub returns-then-eq-clause-left : goal.returns-then-eq-clause-left
returns-then-eq-clause-left c =
    c.pop_front.ensures.rest
    ∙ ap (drop 1) c.self.view_is
    ∙ sym (first_taken c.args.tag c.args.self.now c.in_ok-event.event c.first.ensures.in_order (sym c.in_ok-event.was ∙ c.first.ensures.first) (sym c.eq.ensures ∙ c.if-eq.true))

pub returns-then-is_before-clause-value : goal.returns-then-is_before-clause-value
returns-then-is_before-clause-value c = no_value c.args.tag c.args.self.now c.in_ok-event.event c.first.ensures.in_order (sym c.in_ok-event.was ∙ c.first.ensures.first) (sym c.is_before.ensures.test ∙ c.if-is_before.true)

pub returns-then-is_before-clause-left : goal.returns-then-is_before-clause-left
returns-then-is_before-clause-left c = sym (none_taken c.args.tag c.args.self.now c.in_ok-event.event c.first.ensures.in_order (sym c.in_ok-event.was ∙ c.first.ensures.first) (ahead c.args.tag c.in_ok-event.event.tag (sym c.is_before.ensures.test ∙ c.if-is_before.true)))
