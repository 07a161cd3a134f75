use Rattle.std.proofs.Common.{◌≡◌, sym, ◌∙◌, eqb-true}
use Rattle.std.specs.Prelude.{vec_len}
use Rattle.pt_history.proofs.MarkLists.{number_left}
use Rattle.pt_history.proofs.marks.store_number.Goals as goal

pub returns-then-number-count-clause-numbers : goal.returns-then-number-count-clause-numbers
returns-then-number-count-clause-numbers c =
    let none : vec_len c.args.numbers.now ≡ 0 = eqb-true (vec_len c.args.numbers.now) 0 (sym c.is_empty.ensures ∙ c.if-is_empty.true) in
    number_left c.args.count c.args.number c.args.numbers.now.items (sym c.args.numbers.now.ok.0 ∙ none) c.if-number-count.true
