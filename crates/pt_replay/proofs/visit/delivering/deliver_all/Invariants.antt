use Rattle.pt_replay.proofs.Visits.Moving.{DeliversTo}
use Rattle.pt_replay.proofs.visit.delivering.deliver_all.Given as goal

abbrev pub invariant-loop-l : goal.invariant-loop-l
invariant-loop-l l = DeliversTo l.graph l.number l.now l.l l.initial.airways l.airways l.pipes
