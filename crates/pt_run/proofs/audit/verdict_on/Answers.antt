use Rattle.std.proofs.Common.{ℕ, List, refl, take, sym, subst, ◌∙◌}
use Rattle.std.proofs.lemmas.Bool.{false≢true}
use Rattle.std.specs.Arc.{arc_value}
use Rattle.pt_offsets.specs.Plans.{Parts}
use Rattle.pt_sensors.specs.Listed.{rows_for}
use Rattle.pt_sensors.specs.Places.{of_run}
use Rattle.pt_audit.specs.Verdicts.{BeginsAt, IsVerdict}
use Rattle.pt_audit.specs.declared.verdict.Verdict.{Verdict}
use Rattle.pt_run.proofs.Judging.{head_is_other, head_is_table, replay_refuses, tables_at}
use Rattle.pt_run.proofs.audit.verdict_on.Goals as goal

pub returns-then-branch : goal.returns-then-branch
returns-then-branch g c =
    let plan : Parts = arc_value c.args.plan.now in
    let rows = of_run plan.graph (rows_for c.args.entries.items) in
    let bytes : List ℕ = c.args.bytes.now in
    let ended = c.in_ok-verdict.field-0 in
    let begins = subst (λ (v : Verdict). BeginsAt bytes v ended.log_at) c.in-Fine.is c.in_ok-verdict.ensures.log_at in
    let fine = subst (λ (v : Verdict). IsVerdict plan rows bytes v) c.in-Fine.is c.in_ok-verdict.ensures.verdict in
    let iff =
    tables_at plan c.deref.result.now rows c.as_slice.result.now ended.platforms.items (take ended.log_at bytes) (take ended.log_at bytes) c.in_ok-are_tables-in-Fine.field-0 c.deref.ensures
    c.as_slice.ensures.value refl
    c.in_ok-are_tables-in-Fine.ensures (c.in_ok-verdict.ensures.fine c.in-Fine.is) in
    head_is_table plan rows bytes c.requires.admitted ended.log_at begins.0 begins.1 fine (iff.0 c.if-branch.true)

pub returns-in-Fine : goal.returns-in-Fine
returns-in-Fine g c =
    let plan : Parts = arc_value c.args.plan.now in
    let rows = of_run plan.graph (rows_for c.args.entries.items) in
    let bytes : List ℕ = c.args.bytes.now in
    let ended = c.in_ok-verdict.field-0 in
    let begins = subst (λ (v : Verdict). BeginsAt bytes v ended.log_at) c.in-Fine.is c.in_ok-verdict.ensures.log_at in
    let fine = subst (λ (v : Verdict). IsVerdict plan rows bytes v) c.in-Fine.is c.in_ok-verdict.ensures.verdict in
    let iff =
    tables_at plan c.deref.result.now rows c.as_slice.result.now ended.platforms.items (take ended.log_at bytes) (take ended.log_at bytes) c.in_ok-are_tables-in-Fine.field-0 c.deref.ensures
    c.as_slice.ensures.value refl
    c.in_ok-are_tables-in-Fine.ensures (c.in_ok-verdict.ensures.fine c.in-Fine.is) in
    head_is_other plan rows bytes c.requires.admitted ended.log_at begins.0 begins.1 fine (λ tables. false≢true (sym c.if-branch.false ∙ iff.1 tables))

pub returns : goal.returns
returns g c =
    let plan : Parts = arc_value c.args.plan.now in
    replay_refuses plan (of_run plan.graph (rows_for c.args.entries.items)) c.args.bytes.now c.requires.admitted c.in_ok-verdict.field-0.verdict c.in_default.not-Fine c.in_ok-verdict.ensures.verdict
