use Rattle.std.proofs.Common.{◌≡◌, ℕ, ◌+◌, length, get_or, sym, subst, ◌∙◌, ap, arith}
use Rattle.pt_causality.specs.Delays.{least_of}
use Rattle.pt_offsets.specs.Bounded.{offset_by, offset_from}
use Rattle.pt_offsets.specs.Greatest.{HasGreatest, greater}
use Rattle.pt_offsets.specs.Margins.{unit_at}
use Rattle.pt_offsets.proofs.Listed.{greatest_of_all}
use Rattle.pt_offsets.proofs.Maxima.{greatest_more}
use Rattle.pt_offsets.proofs.unit_offsets.unit_offset.Goals as goal

pub loop-actor-preserved : goal.loop-actor-preserved
loop-actor-preserved c =
    let n = c.loop-actor.actor-index in
    let least = least_of c.args.least.now in
    let by = λ (i : ℕ). offset_from c.args.bounds.now least c.args.unit (get_or c.args.sources.now i 0) in
    let is = c.offset_by.ensures ∙ ap (λ bound. offset_by bound (least (unit_at (get_or c.args.sources.now n 0) 0) c.args.unit)) c.bound_at.ensures in
    subst (HasGreatest (n + 1) by) (sym (c.greater-offset.ensures ∙ ap (greater c.loop-actor.offset) is)) (greatest_more n by c.loop-actor.offset c.loop-actor.invariant)

pub returns : goal.returns
returns c =
    let all : c.loop-actor.actor-index ≡ length c.args.sources.now = omega (arith, c.loop-actor-test.false, c.loop-actor.auto.actor-index-end) in
    greatest_of_all c.args.bounds.now c.args.sources.now (least_of c.args.least.now) c.args.unit c.loop-actor.offset c.requires.sources
    (subst (λ n. HasGreatest n (λ (i : ℕ). offset_from c.args.bounds.now (least_of c.args.least.now) c.args.unit (get_or c.args.sources.now i 0)) c.loop-actor.offset) all c.loop-actor.invariant)
