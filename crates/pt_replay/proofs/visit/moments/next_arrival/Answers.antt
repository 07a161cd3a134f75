use Rattle.std.proofs.Common.{◌+◌, ◌∙◌, Some, None, get_or, sym, subst}
use Rattle.std.proofs.lemmas.Option.{slice_get-get_or}
use Rattle.pt_semantics.specs.Arrivals.{AirwayView}
use Rattle.pt_replay.specs.Visits.Moments.{IsArrival, IsLeastNumber}
use Rattle.pt_replay.proofs.Visits.Leasts.{Below, all_below, arrival_here, below_more, below_none}
use Rattle.pt_replay.proofs.visit.moments.next_arrival.Goals as goal
use Rattle.pt_replay.proofs.visit.moments.next_arrival.Goals.{in-Some, in_default}

pub loop-l-preserved : goal.loop-l-preserved
loop-l-preserved c =
    let at = slice_get-get_or c.args.airways.now c.loop-l.l c.index-airways-l.result c.loop-l-test.true in
    let here : AirwayView = get_or c.args.airways.now c.loop-l.l c.index-airways-l.result in
    elim c.match-next_arrival.branch [
      | in-Some w ↦ subst (IsLeastNumber (Below IsArrival (c.loop-l.l + 1) c.args.airways.now)) (sym (w.least-is ∙ w.lesser-least.ensures))
          (below_more IsArrival c.loop-l.l c.args.airways.now here at c.loop-l.least (Some w.in-Some.time) c.loop-l.invariant
          (subst (λ (a : AirwayView). IsLeastNumber (IsArrival a) (Some w.in-Some.time)) c.index-airways-l.is (arrival_here c.index-airways-l.result (Some w.in-Some.time) w.in-Some.ensures.order w.in-Some.ensures.next)))
      | in_default w ↦ subst (IsLeastNumber (Below IsArrival (c.loop-l.l + 1) c.args.airways.now)) (sym w.least-is)
          (below_none IsArrival c.loop-l.l c.args.airways.now here at c.loop-l.least c.loop-l.invariant
          (subst (λ (a : AirwayView). IsLeastNumber (IsArrival a) None) c.index-airways-l.is (arrival_here c.index-airways-l.result None w.in_default.ensures.order w.in_default.ensures.next)))
    ]

pub returns : goal.returns
returns c = all_below IsArrival c.loop-l.l c.args.airways.now c.loop-l.least c.loop-l-test.false c.loop-l.invariant
