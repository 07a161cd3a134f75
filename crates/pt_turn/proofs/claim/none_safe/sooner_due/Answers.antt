use Rattle.std.proofs.Common.{◌≡◌, ap, sym, subst, ◌∙◌, arith}
use Rattle.pt_semantics.specs.Offsets.{HasOffset}
use Rattle.pt_offsets.specs.Timings.{offset_of}
use Rattle.pt_turn.proofs.Claims.NotDue.{after_due, before_due}
use Rattle.pt_turn.proofs.claim.none_safe.sooner_due.Goals as goal

pub returns-then-due-reading-clause-due : goal.returns-then-due-reading-clause-due
returns-then-due-reading-clause-due c =
    let g = c.args.plan.now.graph in
    let u = c.args.waiting.unit in
    let offset : offset_of c.args.plan.now.offsets u ≡ c.of_unit.result = ap (λ o. offset_of o u) (sym c.offsets.ensures.value) ∙ sym c.of_unit.ensures in
    let has : HasOffset g u c.of_unit.result = subst (HasOffset g u) offset (c.offsets.ensures.admitted.offsets.units u) in
    after_due g u c.of_unit.result c.args.waiting.tag c.args.reading c.paced_reading-due.result c.args.so_far has c.paced_reading-due.ensures (omega (arith, c.ranges.so_far.fits)) c.if-due-reading.true

pub returns-clause-due : goal.returns-clause-due
returns-clause-due c =
    let g = c.args.plan.now.graph in
    let u = c.args.waiting.unit in
    let offset : offset_of c.args.plan.now.offsets u ≡ c.of_unit.result = ap (λ o. offset_of o u) (sym c.offsets.ensures.value) ∙ sym c.of_unit.ensures in
    let has : HasOffset g u c.of_unit.result = subst (HasOffset g u) offset (c.offsets.ensures.admitted.offsets.units u) in
    before_due g u c.of_unit.result c.args.waiting.tag c.args.reading c.paced_reading-due.result c.args.so_far c.min.result has c.paced_reading-due.ensures c.min.ensures
