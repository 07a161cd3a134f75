use Rattle.std.proofs.Common.{◌≡◌, ◌<◌, ◌≤◌, ap, arith, length, sym, subst, ⊎_elim}
use Rattle.std.proofs.lemmas.Bool.{cases_lt}
use Rattle.std.proofs.lemmas.Result.{err_from_is_err_and}
use Rattle.pt_offsets.specs.Margins.{SendsInTime}
use Rattle.pt_offsets.proofs.Admitted.{is_first, none_sends}
use Rattle.pt_offsets.proofs.Maxima.{last_or_before}
use Rattle.pt_offsets.proofs.admission.admit_all.Goals as goal

pub returns-in_err-admit_at : goal.returns-in_err-admit_at
returns-in_err-admit_at c =
    let p = err_from_is_err_and c.from_residual.result c.from_residual.ensures.1 in
    rw (p.1, p.2) (is_first c.args.graph.now c.loop-number.number c.in_err-admit_at.field-0.0 c.loop-number.invariant c.in_err-admit_at.ensures)

pub loop-number-preserved : goal.loop-number-preserved
loop-number-preserved c = λ a h.
    ⊎_elim
    (λ (less : a < c.loop-number.number). c.loop-number.invariant a less)
    (λ (same : a ≡ c.loop-number.number). subst (SendsInTime c.args.graph.now) (sym same) c.in_ok-admit_at.ensures)
    (last_or_before c.loop-number.number a h)

pub returns : goal.returns
returns c =
    let same : length c.as_slice-count.result.now ≡ length c.args.graph.now.actors = ap length c.as_slice-count.ensures in
    λ a.
    ⊎_elim
    (λ (less : a < length c.args.graph.now.actors). c.loop-number.invariant a (omega arith))
    (λ (past : length c.args.graph.now.actors ≤ a). none_sends c.args.graph.now a past)
    (cases_lt a (length c.args.graph.now.actors))
