use Rattle.std.proofs.Common.{rules, ◌≡◌, ℕ, ◌+◌, List, ◌≤◌, length, sym, ap, subst, ◌∙◌, arith}
use Rattle.std.specs.Arc.{arc_value}
use Rattle.pt_types.specs.declared.graph.Graph.{Graph}
use Rattle.pt_offsets.specs.Plans.{Parts}
use Rattle.pt_sensors.specs.Listed.{rows_for}
use Rattle.pt_sensors.specs.Places.{of_run}
use Rattle.pt_turn.specs.All.{AreReady}
use Rattle.pt_audit.specs.Parsing.Lines.{Block, blocks_from, text_lines}
use Rattle.pt_audit.specs.Limits.{log_limit}
use Rattle.pt_audit.specs.Verdicts.{IsVerdict, IsVerdictOn}
use Rattle.pt_audit.specs.declared.verdict.Verdict.TheVariants.{Fine}
use Rattle.pt_audit.proofs.Ended.{rest_of, verdict_on_file}
use Rattle.pt_audit.proofs.verification.verify.Goals as goal

pub returns-then-ne-clause-verdict : goal.returns-then-ne-clause-verdict
returns-then-ne-clause-verdict g c =
    let rows = of_run (arc_value c.args.plan.now).graph (rows_for c.args.entries.items) in
    let ready = subst (λ (p : Parts). AreReady p rows c.in_ok-platforms.platforms.items) (sym c.deref-2.ensures) c.in_ok-platforms.ensures in
    let on = c.in_ok-ended.ensures.verdict rows ready in
    let planned = subst (λ (p : Parts). IsVerdictOn p rows c.new-log.result c.in_ok-ended.ended.verdict) c.deref-2.ensures on in
    let at_most : c.log_limit.result ≡ log_limit (arc_value c.args.plan.now).graph.claims =
    c.log_limit.ensures ∙ ap (λ (z : Graph). log_limit z.claims) c.graph.ensures.value ∙ ap (λ (p : Parts). log_limit p.graph.claims) c.deref.ensures in
    let short : length c.args.bytes.now ≤ log_limit (arc_value c.args.plan.now).graph.claims = omega (arith, c.if-bytes-log_limit.false, at_most) in
    let whole = verdict_on_file (arc_value c.args.plan.now) rows c.args.bytes.now c.in-Some.at.place c.in-Some.at.line c.in_ok-ended.ended.verdict short c.in-Some.ensures
    (subst (λ (bs : List Block). IsVerdictOn (arc_value c.args.plan.now) rows bs c.in_ok-ended.ended.verdict) (c.new-log.ensures ∙ ap (λ (ys : List ℕ). blocks_from (c.in-Some.at.line + 1) (text_lines ys)) (rest_of c.args.bytes.now (c.in-Some.at.place + 4))) planned) in
    subst (IsVerdict (arc_value c.args.plan.now) rows c.args.bytes.now) (sym c.unlawful-then-ne.ensures.verdict) whole

pub returns-clause-verdict : goal.returns-clause-verdict
returns-clause-verdict g c =
    let rows = of_run (arc_value c.args.plan.now).graph (rows_for c.args.entries.items) in
    let ready = subst (λ (p : Parts). AreReady p rows c.in_ok-platforms.platforms.items) (sym c.deref-2.ensures) c.in_ok-platforms.ensures in
    let on = c.in_ok-ended.ensures.verdict rows ready in
    let planned = subst (λ (p : Parts). IsVerdictOn p rows c.new-log.result c.in_ok-ended.ended.verdict) c.deref-2.ensures on in
    let at_most : c.log_limit.result ≡ log_limit (arc_value c.args.plan.now).graph.claims =
    c.log_limit.ensures ∙ ap (λ (z : Graph). log_limit z.claims) c.graph.ensures.value ∙ ap (λ (p : Parts). log_limit p.graph.claims) c.deref.ensures in
    let short : length c.args.bytes.now ≤ log_limit (arc_value c.args.plan.now).graph.claims = omega (arith, c.if-bytes-log_limit.false, at_most) in
    let whole = verdict_on_file (arc_value c.args.plan.now) rows c.args.bytes.now c.in-Some.at.place c.in-Some.at.line c.in_ok-ended.ended.verdict short c.in-Some.ensures
    (subst (λ (bs : List Block). IsVerdictOn (arc_value c.args.plan.now) rows bs c.in_ok-ended.ended.verdict) (c.new-log.ensures ∙ ap (λ (ys : List ℕ). blocks_from (c.in-Some.at.line + 1) (text_lines ys)) (rest_of c.args.bytes.now (c.in-Some.at.place + 4))) planned) in
    let same : c.in_ok-ended.ended.verdict ≡ Fine = search rules in
    subst (IsVerdict (arc_value c.args.plan.now) rows c.args.bytes.now) same whole
