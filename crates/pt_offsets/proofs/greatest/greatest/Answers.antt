use Rattle.std.proofs.Common.{◌≡◌, ◌+◌, length, slice_index_or, None, arith, sym, subst}
use Rattle.pt_offsets.specs.Greatest.{HasGreatest}
use Rattle.pt_offsets.proofs.Maxima.{greatest_more}
use Rattle.pt_offsets.proofs.greatest.greatest.Goals as goal

pub loop-number-preserved : goal.loop-number-preserved
loop-number-preserved c =
    let n = c.loop-number.number-index in
    subst (HasGreatest (n + 1) (λ k. slice_index_or c.args.numbers.now k None)) (sym c.greater-found.ensures)
    (greatest_more n (λ k. slice_index_or c.args.numbers.now k None) c.loop-number.found c.loop-number.invariant)

pub returns : goal.returns
returns c =
    let whole : c.loop-number.number-index ≡ length c.args.numbers.now = omega arith in
    subst (λ n. HasGreatest n (λ k. slice_index_or c.args.numbers.now k None) c.loop-number.found) whole c.loop-number.invariant
