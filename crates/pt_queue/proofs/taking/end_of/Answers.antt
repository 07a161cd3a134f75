use Rattle.std.proofs.Common.{arith}
use Rattle.pt_queue.proofs.taking.end_of.Goals as goal

pub returns-then-any_loose-clause-none : goal.returns-then-any_loose-clause-none
returns-then-any_loose-clause-none c = λ p le l. absurd (omega (arith, le, l))

pub returns-clause-none : goal.returns-clause-none
returns-clause-none c = λ p le l. (c.end.ensures.none p le l, c.if-any_loose.false)
