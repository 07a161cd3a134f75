use Rattle.std.proofs.Common.{length, ◌-◌}
use Rattle.pt_audit.proofs.Parsing.Passing.{AreOfFirst}
use Rattle.pt_audit.proofs.parse.cursor.block_extent.Given as goal

abbrev pub invariant-loop-len : goal.invariant-loop-len
invariant-loop-len l = AreOfFirst l.bytes l.len l.lines

abbrev pub decreases-loop-len : goal.decreases-loop-len
decreases-loop-len l = length l.bytes - l.len
