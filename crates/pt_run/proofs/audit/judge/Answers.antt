use Rattle.std.proofs.Common.{[], inl, inr, subst}
use Rattle.std.specs.Arc.{arc_value}
use Rattle.pt_offsets.specs.Plans.{Parts}
use Rattle.pt_io.specs.Calls.{Contents}
use Rattle.pt_sensors.specs.Listed.{rows_for}
use Rattle.pt_sensors.specs.Places.{of_run}
use Rattle.pt_audit.specs.declared.verdict.Verdict.{Verdict}
use Rattle.pt_audit.specs.declared.verdict.Verdict.TheVariants.{Fine}
use Rattle.pt_run.specs.declared.fault.Fault.TheVariants as fault
use Rattle.pt_run.specs.Auditing.{IsJudged, LastFails}
use Rattle.pt_run.specs.Due.{IsJudgedBy, RefusedWith}
use Rattle.pt_run.proofs.Judging.{judged_content, judged_unlawful}
use Rattle.pt_run.proofs.OverPlan.{past_all_rows}
use Rattle.pt_run.proofs.Stages.{on_admitted}
use Rattle.pt_run.proofs.audit.judge.Goals as goal
use Rattle.pt_sensor_files.specs.Bytes.{OfBytes}

pub returns-in-Err-clause-due : goal.returns-in-Err-clause-due
returns-in-Err-clause-due g c =
    let contents : Contents = g.S.Source.contents c.args.source.now in
    let plan : Parts = arc_value c.args.plan.now in
    let log = c.args.log.now in
    λ a is out. on_admitted contents plan.graph (λ a p rows. RefusedWith fault.ReadLog a × LastFails plan.graph [] log a.read) (IsJudgedBy log contents plan.graph []) a (λ p rows k. inl k) (c.in-Err.ensures.refused a is out)

pub returns-in-Fine-clause-due : goal.returns-in-Fine-clause-due
returns-in-Fine-clause-due g c =
    let contents : Contents = g.S.Source.contents c.args.source.now in
    let plan : Parts = arc_value c.args.plan.now in
    let log = c.args.log.now in
    let rows = of_run plan.graph (rows_for c.in-Ok.found.entries.items) in
    let judged : IsJudged plan rows c.in-Ok.found.bytes.items c.in-Ok-verdict_on.verdict = subst (λ bs. IsJudged plan rows bs c.in-Ok-verdict_on.verdict) c.as_slice.ensures.value c.in-Ok-verdict_on.ensures in
    let content = judged_content plan rows (contents log) c.in-Ok.found.bytes.items c.in-Ok-verdict_on.verdict c.in-Ok.ensures.bytes judged in
    let fine : OfBytes (contents log) (λ bytes. IsJudged plan rows bytes Fine) = subst (λ (v : Verdict). OfBytes (contents log) (λ bytes. IsJudged plan rows bytes v)) c.in-Fine.is content in
    λ a is puts. past_all_rows contents plan c.in-Ok.found.entries.items (IsJudgedBy log contents plan.graph []) c.in-Ok.ensures.rows a (inr (inr (inr (fine, puts))))

pub returns-clause-due : goal.returns-clause-due
returns-clause-due g c =
    let contents : Contents = g.S.Source.contents c.args.source.now in
    let plan : Parts = arc_value c.args.plan.now in
    let log = c.args.log.now in
    let rows = of_run plan.graph (rows_for c.in-Ok.found.entries.items) in
    let judged : IsJudged plan rows c.in-Ok.found.bytes.items c.in-Ok-verdict_on.verdict = subst (λ bs. IsJudged plan rows bs c.in-Ok-verdict_on.verdict) c.as_slice.ensures.value c.in-Ok-verdict_on.ensures in
    let content = judged_content plan rows (contents log) c.in-Ok.found.bytes.items c.in-Ok-verdict_on.verdict c.in-Ok.ensures.bytes judged in
    let unlawful = judged_unlawful plan rows (contents log) c.in-Ok-verdict_on.verdict c.in_default.not-Fine content in
    λ a is out. past_all_rows contents plan c.in-Ok.found.entries.items (IsJudgedBy log contents plan.graph []) c.in-Ok.ensures.rows a (inr (inr (inl (c.in-Ok-verdict_on.verdict, out, unlawful))))
