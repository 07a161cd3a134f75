use Rattle.std.proofs.Common.{sym, subst}
use Rattle.pt_replay.specs.Visits.Moments.{IsArrival, IsLeastNumber, IsMoment, IsReading, OfOne}
use Rattle.pt_replay.proofs.Visits.Leasts.{least_both}
use Rattle.pt_replay.proofs.visit.moments.next_time.Goals as goal

pub returns : goal.returns
returns c =
    subst (IsLeastNumber (IsMoment c.args.air.now c.args.platforms.now c.args.airways.now)) (sym c.lesser.ensures)
    (least_both (OfOne (IsReading c.args.air.now) c.args.platforms.now) (OfOne IsArrival c.args.airways.now) c.in_ok-reading.reading c.next_arrival.result c.in_ok-reading.ensures c.next_arrival.ensures)
