use Rattle.std.proofs.Common.{◌≡◌, ◌∙◌, ◌++◌, ◌∷◌, [], drop, length, ap, arith, sym}
use Rattle.std.proofs.lemmas.List.{length_push}
use Rattle.pt_history.proofs.Comparing.{length_group, same_all, same_more}
use Rattle.pt_history.proofs.cells.are_all.Goals as goal

pub loop-number-preserved : goal.loop-number-preserved
loop-number-preserved c =
    let nine : length c.group_at-cells.result ≡ 9 = ap length c.group_at-cells.ensures ∙ length_group c.args.mask (drop c.args.start c.args.values.now) in
    let many : length (c.args.ports.now ++ c.args.last ∷ []) ≡ 9 = omega (arith, c.are_eight.ensures, length_push c.args.ports.now c.args.last) in
    same_more c.group_at-cells.result (c.args.ports.now ++ c.args.last ∷ []) c.loop-number.number (omega (arith, nine, c.loop-number-test.true)) (omega (arith, many, c.loop-number-test.true))
    (c.same_cell.ensures c.if-not-same_cell.false ∙ c.cell.ensures) c.loop-number.invariant

pub returns-clause-same : goal.returns-clause-same
returns-clause-same c = λ same.
    let nine : length c.group_at-cells.result ≡ 9 = ap length c.group_at-cells.ensures ∙ length_group c.args.mask (drop c.args.start c.args.values.now) in
    let many : length (c.args.ports.now ++ c.args.last ∷ []) ≡ 9 = omega (arith, c.are_eight.ensures, length_push c.args.ports.now c.args.last) in
    sym c.group_at-cells.ensures ∙ same_all c.group_at-cells.result (c.args.ports.now ++ c.args.last ∷ []) c.loop-number.number (omega (arith, nine, c.loop-number-test.false)) (omega (arith, many, c.loop-number-test.false)) c.loop-number.invariant
