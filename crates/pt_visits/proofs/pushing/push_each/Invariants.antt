use Rattle.pt_visits.proofs.Pushed.{PushesTo}
use Rattle.pt_visits.proofs.pushing.push_each.Given as goal

abbrev pub invariant-loop-l : goal.invariant-loop-l
invariant-loop-l l = PushesTo l.l l.initial.platform l.platform l.initial.pipes l.pipes
