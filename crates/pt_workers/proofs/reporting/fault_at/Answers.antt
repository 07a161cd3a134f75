use Rattle.std.proofs.Common.{get_or, subst}
use Rattle.std.proofs.lemmas.Option.{slice_get-get_or}
use Rattle.pt_turn.specs.Platforms.{PlatformView}
use Rattle.pt_workers.specs.Reported.{IsReportedFault, IsPlaceBelow}
use Rattle.pt_workers.proofs.reporting.fault_at.Goals as goal

pub returns-in-Some : goal.returns-in-Some
returns-in-Some c =
    let k = c.in-Some.place in
    let ps = c.args.platforms.now in
    let low = subst (IsPlaceBelow _) c.in-Some.is c.requires in
    rw c.in-Some.is (get_or ps k c.index-platforms-place.result, slice_get-get_or ps k c.index-platforms-place.result low, subst (λ (v : PlatformView). IsReportedFault v c.fault_of.result) c.index-platforms-place.is c.fault_of.ensures)
