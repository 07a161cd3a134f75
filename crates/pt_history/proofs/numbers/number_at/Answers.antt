use Rattle.std.proofs.Common.{sym}
use Rattle.pt_history.proofs.NumberLists.{number_after, number_before}
use Rattle.pt_history.proofs.numbers.number_at.Goals as goal

pub returns-then-index-in_order : goal.returns-then-index-in_order
returns-then-index-in_order c = sym (number_before c.args.in_order c.args.index c.args.stored.now c.if-index-in_order.true)

pub returns : goal.returns
returns c = sym (number_after c.args.in_order c.args.index c.args.stored.now c.if-index-in_order.false)
