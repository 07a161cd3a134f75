use Rattle.std.proofs.Common.{sym}
use Rattle.pt_history.proofs.MarkLists.{number_first, number_last}
use Rattle.pt_history.proofs.marks.found_number.Goals as goal

pub returns-then-index-in_order : goal.returns-then-index-in_order
returns-then-index-in_order c = sym (number_first c.args.count c.args.index c.args.numbers.now c.if-index-in_order.true)

pub returns-else-index-in_order : goal.returns-else-index-in_order
returns-else-index-in_order c = sym (number_last c.args.count c.args.index c.args.numbers.now c.if-index-in_order.false)
