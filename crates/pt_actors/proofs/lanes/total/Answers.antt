use Rattle.std.proofs.Common.{arith}
use Rattle.std.proofs.lemmas.Int.{ints}
use Rattle.pt_actors.proofs.Totals.{present_sum-more}
use Rattle.pt_actors.proofs.lanes.total.Goals as goal

pub loop-value-preserved : goal.loop-value-preserved
loop-value-preserved c =
    let m = present_sum-more c.args.values.now c.loop-value.value-index _ _ c.loop-value-test.true c.loop-value.invariant.0 in
    (omega (arith, ints), omega (arith, ints), omega (arith, ints))
