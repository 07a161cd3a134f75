use Rattle.pt_audit.specs.Finishing.{AreAtEndBefore}
use Rattle.pt_audit.proofs.finishing.first_unfinished.Given as goal

abbrev pub invariant-loop-i : goal.invariant-loop-i
invariant-loop-i l = AreAtEndBefore l.platforms l.i
