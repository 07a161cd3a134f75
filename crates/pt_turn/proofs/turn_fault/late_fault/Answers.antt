use Rattle.std.proofs.Common.{◌≡◌, ◌-◌, length, get_or, sym, ap, subst, ◌∙◌}
use Rattle.pt_offsets.specs.Plans.{AreOffsets}
use Rattle.pt_turn.specs.Running.{LastIsLate}
use Rattle.pt_turn.proofs.Naming.{bound_there, late_named, no_link, no_message}
use Rattle.pt_turn.proofs.turn_fault.late_fault.Goals as goal

pub unreachable-requires-in_default-bound : goal.unreachable-requires-in_default-bound
unreachable-requires-in_default-bound c =
    let offsets : AreOffsets c.args.plan.now.graph c.offsets.result.now = subst (AreOffsets c.args.plan.now.graph) (sym c.offsets.ensures.value) c.offsets.ensures.admitted.offsets in
    let links : c.as_slice.result.now ≡ c.args.plan.now.graph.links = c.as_slice.ensures ∙ ap (λ g. g.links) c.graph.ensures.value in
    bound_there c.args.plan.now.graph c.offsets.result.now c.as_slice.result.now c.args.last c.args.taken.now c.graph.ensures.admitted.lawful offsets links c.requires.late (sym c.bound.ensures ∙ c.in_default-bound.is)

pub sum_below-requires : goal.sum_below-requires
sum_below-requires c =
    let offsets : AreOffsets c.args.plan.now.graph c.offsets.result.now = subst (AreOffsets c.args.plan.now.graph) (sym c.offsets.ensures.value) c.offsets.ensures.admitted.offsets in
    let links : c.as_slice.result.now ≡ c.args.plan.now.graph.links = c.as_slice.ensures ∙ ap (λ g. g.links) c.graph.ensures.value in
    (late_named c.args.plan.now.graph c.offsets.result.now c.as_slice.result.now c.args.last c.args.taken.now c.in-Event.tag c.in-Event.value c.in-Some.reading c.in-Some-bound.bound c.graph.ensures.admitted.lawful offsets links c.requires.late c.in-Some.is c.in-Event.is (sym c.bound.ensures ∙ c.in-Some-bound.is)).past

pub returns : goal.returns
returns c =
    let offsets : AreOffsets c.args.plan.now.graph c.offsets.result.now = subst (AreOffsets c.args.plan.now.graph) (sym c.offsets.ensures.value) c.offsets.ensures.admitted.offsets in
    let links : c.as_slice.result.now ≡ c.args.plan.now.graph.links = c.as_slice.ensures ∙ ap (λ g. g.links) c.graph.ensures.value in
    subst (LastIsLate c.args.plan.now.graph c.args.last c.args.taken.now (get_or c.as_slice.result.now (get_or c.args.taken.now (length c.args.taken.now - 1) no_message).link no_link).to c.in-Event.tag c.in-Some.reading) (sym c.sum_below.ensures)
    (late_named c.args.plan.now.graph c.offsets.result.now c.as_slice.result.now c.args.last c.args.taken.now c.in-Event.tag c.in-Event.value c.in-Some.reading c.in-Some-bound.bound c.graph.ensures.admitted.lawful offsets links c.requires.late c.in-Some.is c.in-Event.is (sym c.bound.ensures ∙ c.in-Some-bound.is))
