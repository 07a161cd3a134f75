use Rattle.std.proofs.Common.{arith}
use Rattle.std.proofs.lemmas.Nat.Bits.{bit_at_above}
use Rattle.pt_queue.proofs.Summing.{next_pair, no_pair}
use Rattle.pt_queue.proofs.marks.next_word.Goals as goal

pub returns-then-index-ge128-clause-none : goal.returns-then-index-ge128-clause-none
returns-then-index-ge128-clause-none c = λ n le less. bit_at_above c.args.summary 64 _ (omega (arith, c.ranges.summary.fits)) (omega (arith, le, c.if-index-ge128.true))

pub returns-in-None-clause-none : goal.returns-in-None-clause-none
returns-in-None-clause-none c = λ n le less. no_pair c.args.summary c.args.index n c.in-None.ensures le

pub returns-in-Some-clause-none : goal.returns-in-Some-clause-none
returns-in-Some-clause-none c = λ n le less. next_pair c.args.summary c.args.index c.in-Some.pair n c.in-Some.ensures (omega (arith, le, less, c.max.ensures)) le
