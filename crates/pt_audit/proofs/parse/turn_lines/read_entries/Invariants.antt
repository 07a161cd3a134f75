use Rattle.std.proofs.Common.{length}
use Rattle.pt_audit.proofs.Parsing.Reading.{IsReading}
use Rattle.pt_audit.proofs.parse.turn_lines.read_entries.Given as goal

abbrev pub invariant-loop-rest : goal.invariant-loop-rest
invariant-loop-rest l = IsReading l.graph l.fn.text l.fn.hints l.rest l.hints

abbrev pub decreases-loop-rest : goal.decreases-loop-rest
decreases-loop-rest l = length l.rest
