use Rattle.std.proofs.Common.{◌-◌, ◌%◌, length, arith}
use Rattle.pt_history.proofs.Repeating.{repeated_step}
use Rattle.pt_history.proofs.indices.Indices.repeat.Goals as goal

pub loop-left-preserved : goal.loop-left-preserved
loop-left-preserved c =
    let now = c.loop-left.self.indices in
    let k = 64 - length now % 64 in
    record {
      repeated = repeated_step c.args.self.now.indices now c.fill.new.self.indices (c.args.more - c.loop-left.left) k _ c.loop-left.invariant.repeated c.fill.ensures.indices (omega (arith, c.len.ensures, c.len-in-loop-left.ensures, c.loop-left-test.true, c.loop-left.invariant.few));
      spare = omega (arith, c.len.ensures, c.len-in-loop-left.ensures, c.loop-left-test.true, c.loop-left.invariant.few, c.loop-left.invariant.spare, c.fill.ensures.room);
      few = omega (arith, c.loop-left.invariant.few);
    }

pub returns-clause-indices : goal.returns-clause-indices
returns-clause-indices c =
    let step = repeated_step c.args.self.now.indices c.loop-left.self.indices c.stay.new.self.indices (c.args.more - c.loop-left.left) c.loop-left.left c.args.more c.loop-left.invariant.repeated c.stay.ensures.indices (omega (arith, c.loop-left.invariant.few)) in
    step.indices
