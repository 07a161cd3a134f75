use Rattle.std.proofs.Common.{rules, ◌≡◌, ◌∙◌, ap, length, subst, sym}
use Rattle.std.specs.Prelude.{flat_map, string_bytes}
use Rattle.std.specs.Arc.{arc_value}
use Rattle.pt_offsets.specs.Plans.{IsAdmitted, Parts}
use Rattle.pt_monitors.specs.Platforms.{missed_by}
use Rattle.pt_run.proofs.Made.{gathered_as, made_run}
use Rattle.pt_run.proofs.make.run_made.Goals as goal

pub returns : goal.returns
returns g c =
    let shared : (arc_value c.in_ok-plan-2.plan) ≡ c.in_ok-plan.plan = search rules in
    let counted : c.len.result ≡ length (flat_map missed_by c.in_ok-platforms.platforms.items) = search rules in
    made_run c.args.number c.requires (arc_value c.in_ok-plan-2.plan) (ap (λ (p : Parts). p.graph) shared ∙ c.in_ok-plan.ensures.graph) (subst IsAdmitted (sym shared) c.in_ok-plan.ensures.admitted)
    c.in_ok-platforms.platforms.items c.in_ok-firings.firings c.len.result (string_bytes c.in_ok-summary.summary) c.in_ok-platforms.ensures
    (gathered_as (arc_value c.in_ok-plan-2.plan) c.deref.result.now c.in_ok-platforms.platforms.items c.as_slice-2.result.now c.in_ok-firings.firings c.deref.ensures c.as_slice-2.ensures.value c.in_ok-firings.ensures.meaning)
    counted c.in_ok-summary.ensures
