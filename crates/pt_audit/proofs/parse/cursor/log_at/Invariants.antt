use Rattle.std.proofs.Common.{length, ◌-◌}
use Rattle.pt_audit.proofs.Parsing.Passing.{HavePassed}
use Rattle.pt_audit.proofs.parse.cursor.log_at.Given as goal

abbrev pub invariant-loop-place : goal.invariant-loop-place
invariant-loop-place l = HavePassed l.bytes l.place l.line

abbrev pub decreases-loop-place : goal.decreases-loop-place
decreases-loop-place l = length l.bytes - l.place
