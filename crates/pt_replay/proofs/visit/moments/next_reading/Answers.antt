use Rattle.std.proofs.Common.{◌+◌, ◌∙◌, Some, None, get_or, sym, subst}
use Rattle.std.proofs.lemmas.Option.{slice_get-get_or}
use Rattle.pt_turn.specs.Platforms.{PlatformView}
use Rattle.pt_replay.specs.Visits.Moments.{IsLeastNumber, IsReading}
use Rattle.pt_replay.proofs.Visits.Leasts.{Below, all_below, below_more, below_none}
use Rattle.pt_replay.proofs.visit.moments.next_reading.Goals as goal
use Rattle.pt_replay.proofs.visit.moments.next_reading.Goals.{in-Some, in_default}

pub loop-i-preserved : goal.loop-i-preserved
loop-i-preserved c =
    let at = slice_get-get_or c.args.platforms.now c.loop-i.i c.index-platforms-i.result c.loop-i-test.true in
    let here : PlatformView = get_or c.args.platforms.now c.loop-i.i c.index-platforms-i.result in
    elim c.match-branch-2.branch [
      | in-Some w ↦ subst (IsLeastNumber (Below (IsReading c.args.air.now) (c.loop-i.i + 1) c.args.platforms.now)) (sym (w.least-is ∙ w.lesser-least.ensures))
          (below_more (IsReading c.args.air.now) c.loop-i.i c.args.platforms.now here at c.loop-i.least (Some w.in-Some.time) c.loop-i.invariant
          (subst (λ (v : PlatformView). IsLeastNumber (IsReading c.args.air.now v) (Some w.in-Some.time)) c.index-platforms-i.is (subst (IsLeastNumber (IsReading c.args.air.now c.index-platforms-i.result)) w.in-Some.is c.in_ok-time.ensures)))
      | in_default w ↦ subst (IsLeastNumber (Below (IsReading c.args.air.now) (c.loop-i.i + 1) c.args.platforms.now)) (sym w.least-is)
          (below_none (IsReading c.args.air.now) c.loop-i.i c.args.platforms.now here at c.loop-i.least c.loop-i.invariant
          (subst (λ (v : PlatformView). IsLeastNumber (IsReading c.args.air.now v) None) c.index-platforms-i.is (subst (IsLeastNumber (IsReading c.args.air.now c.index-platforms-i.result)) w.in_default.is c.in_ok-time.ensures)))
    ]

pub returns : goal.returns
returns c = all_below (IsReading c.args.air.now) c.loop-i.i c.args.platforms.now c.loop-i.least c.loop-i-test.false c.loop-i.invariant
