use Rattle.pt_turn.proofs.Claims.Bounds.{Closes}
use Rattle.pt_turn.proofs.close.reading.closing_reading.Given as goal

abbrev pub invariant-loop-number : goal.invariant-loop-number
invariant-loop-number l = Closes l.plan.graph l.platform l.number l.closing
