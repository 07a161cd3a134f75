use Rattle.std.proofs.Common.{arith, refl}
use Rattle.pt_meaning.proofs.Lowest.{first_here, none_here, none_set}
use Rattle.pt_meaning.proofs.bits.first_set.Goals as goal

pub loop-index-preserved : goal.loop-index-preserved
loop-index-preserved c = λ n less. none_here c.args.words.now c.loop-index.index _ refl c.in_default.ensures c.loop-index.invariant n less

pub returns-in-Some : goal.returns-in-Some
returns-in-Some c = first_here c.args.words.now c.loop-index.index _ c.in-Some.bit refl c.in-Some.ensures c.loop-index.invariant

pub returns : goal.returns
returns c = λ n. none_set c.args.words.now (λ m less. c.loop-index.invariant m (omega (arith, less, c.loop-index-test.false))) n
