use Rattle.pt_replay.proofs.Visits.Arrived.{Delivers}
use Rattle.pt_replay.proofs.visit.delivering.deliver_from.Given as goal

abbrev pub invariant-loop-k : goal.invariant-loop-k
invariant-loop-k l = Delivers l.now l._k l.initial.airway l.airway l.pipe
