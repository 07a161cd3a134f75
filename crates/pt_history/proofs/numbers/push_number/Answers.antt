use Rattle.std.proofs.Common.{◌≡◌, sym, ◌∙◌, eqb-true}
use Rattle.std.specs.Prelude.{vec_len}
use Rattle.pt_history.proofs.NumberLists.{number_counted}
use Rattle.pt_history.proofs.numbers.push_number.Goals as goal

pub returns-then-number-in_order-clause-numbers : goal.returns-then-number-in_order-clause-numbers
returns-then-number-in_order-clause-numbers c =
    let none : vec_len c.args.stored.now ≡ 0 = eqb-true (vec_len c.args.stored.now) 0 (sym c.is_empty.ensures ∙ c.if-is_empty.true) in
    number_counted c.args.in_order.now c.args.number c.args.stored.now.items (sym c.args.stored.now.ok.0 ∙ none) c.if-number-in_order.true
