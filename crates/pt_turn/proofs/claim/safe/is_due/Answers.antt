use Rattle.std.proofs.Common.{◌≡◌, ap, sym, subst, ◌∙◌}
use Rattle.pt_semantics.specs.Offsets.{HasOffset}
use Rattle.pt_offsets.specs.Timings.{offset_of}
use Rattle.pt_turn.proofs.Claims.SafeTags.{bounds_paced, paced_bounds}
use Rattle.pt_turn.proofs.claim.safe.is_due.Goals as goal

pub returns : goal.returns
returns c =
    let offset : offset_of c.args.plan.now.offsets c.args.unit ≡ c.of_unit.result = ap (λ o. offset_of o c.args.unit) (sym c.offsets.ensures.value) ∙ sym c.of_unit.ensures in
    let has : HasOffset c.args.plan.now.graph c.args.unit c.of_unit.result = subst (HasOffset c.args.plan.now.graph c.args.unit) offset (c.offsets.ensures.admitted.offsets.units c.args.unit) in (
      λ h. paced_bounds c.args.plan.now.graph c.args.unit c.of_unit.result c.args.tag c.args.reading has (c.has_reached.ensures.0 h),
      λ due. c.has_reached.ensures.1 (bounds_paced c.args.plan.now.graph c.args.unit c.of_unit.result c.args.tag c.args.reading has due),
    )
