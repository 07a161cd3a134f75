use Rattle.std.proofs.Common.{◌≡◌, ◌-◌, ◌<◌, length, sym, ◌∙◌, eqb-true, arith}
use Rattle.pt_history.proofs.MarkLists.{number_first}
use Rattle.pt_history.proofs.marks.number_at.Goals as goal

pub returns-then-is_empty : goal.returns-then-is_empty
returns-then-is_empty c =
    let none : length c.args.numbers.now ≡ 0 = eqb-true (length c.args.numbers.now) 0 (sym c.is_empty.ensures ∙ c.if-is_empty.true) in
    let before : c.args.index < c.args.count - length c.args.numbers.now = omega (arith, none, c.requires.inside) in
    sym (number_first c.args.count c.args.index c.args.numbers.now before)
