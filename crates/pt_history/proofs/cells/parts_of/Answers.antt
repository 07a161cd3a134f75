use Rattle.std.proofs.Common.{◌≡◌, ◌∙◌, length, rules, arith}
use Rattle.pt_history.proofs.Filling.{eight_front}
use Rattle.pt_history.proofs.cells.parts_of.Goals as goal

pub returns-clause-ports : goal.returns-clause-ports
returns-clause-ports c =
    let many : length c.args.cells.now ≡ 9 = search rules in
    c.from_values.ensures ∙ eight_front c.args.cells.now (omega (arith, many))
