use Rattle.std.proofs.Common.{◌≡◌, ◌∙◌, length, rules, arith, take, drop}
use Rattle.pt_meaning.proofs.Filling.{eight_front, eight_back}
use Rattle.pt_meaning.proofs.cells.firing_from.Goals as goal

pub returns : goal.returns
returns c =
    let many : length c.args.cells.now ≡ 18 = search rules in
    let inputs : c.from_values.result ≡ take 8 c.args.cells.now = c.from_values.ensures ∙ eight_front c.args.cells.now (omega (arith, many)) in
    let outputs : c.from_values-2.result ≡ take 8 (drop 8 c.args.cells.now) = c.from_values-2.ensures ∙ eight_back c.args.cells.now (omega (arith, many)) in
    search (rules, inputs, outputs)
