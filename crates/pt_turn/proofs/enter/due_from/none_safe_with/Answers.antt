use Rattle.std.proofs.Common.{arith}
use Rattle.pt_turn.proofs.enter.due_from.none_safe_with.Goals as goal

pub returns-then-before-reading-clause-due : goal.returns-then-before-reading-clause-due
returns-then-before-reading-clause-due c = λ g are x mem q lt due. absurd (omega (arith, lt))
