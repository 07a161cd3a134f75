use Rattle.pt_replay.specs.Visits.Moments.{IsLeastNumber, IsReading}
use Rattle.pt_replay.proofs.Visits.Leasts.{Below}
use Rattle.pt_replay.proofs.visit.moments.next_reading.Given as goal

abbrev pub invariant-loop-i : goal.invariant-loop-i
invariant-loop-i l = IsLeastNumber (Below (IsReading l.air) l.i l.platforms) l.least
