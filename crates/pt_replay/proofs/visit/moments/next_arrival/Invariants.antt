use Rattle.pt_replay.specs.Visits.Moments.{IsArrival, IsLeastNumber}
use Rattle.pt_replay.proofs.Visits.Leasts.{Below}
use Rattle.pt_replay.proofs.visit.moments.next_arrival.Given as goal

abbrev pub invariant-loop-l : goal.invariant-loop-l
invariant-loop-l l = IsLeastNumber (Below IsArrival l.l l.airways) l.least
