use Rattle.std.proofs.Common.{[], ℕ, List, length}
use Rattle.pt_types.specs.declared.rows.Row.{Row}
use Rattle.pt_audit.specs.Verifying.{AreVerified}
use Rattle.pt_audit.proofs.Loop.{VerifiedTo}
use Rattle.pt_audit.proofs.blocks.verify_blocks.Given as goal

abbrev pub invariant-loop-block : goal.invariant-loop-block
invariant-loop-block g l = (rows : ℕ → List Row) → AreVerified l.plan rows [] l.fn.order l.fn.last l.fn.platforms → VerifiedTo l.plan rows l.fn.log l.rest l.order l.last l.platforms

abbrev pub decreases-loop-block : goal.decreases-loop-block
decreases-loop-block g l = length l.rest
