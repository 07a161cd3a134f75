use Rattle.std.proofs.Common.{refl}
use Rattle.pt_queue.proofs.Words.{shares_more}
use Rattle.pt_queue.proofs.blocked.shared_bits.Goals as goal

pub loop-index-preserved : goal.loop-index-preserved
loop-index-preserved c = shares_more c.args.marks.now c.args.before.now c.args.from c.loop-index.index c.loop-index.shared _ c.loop-index.invariant refl
