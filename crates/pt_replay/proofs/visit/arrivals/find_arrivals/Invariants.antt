use Rattle.pt_replay.proofs.Visits.Awaited.{FirstArriveFrom}
use Rattle.pt_replay.proofs.visit.arrivals.find_arrivals.Given as goal

abbrev pub invariant-loop-l : goal.invariant-loop-l
invariant-loop-l l = FirstArriveFrom l.l l.graph l.arrivals l.airways
