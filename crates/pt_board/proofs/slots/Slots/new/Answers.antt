use Rattle.std.proofs.Common.{List, replicate, subst, sym}
use Rattle.atomic_table.specs.Table.{opening}
use Rattle.pt_board.specs.declared.table.Item.{Item}
use Rattle.pt_board.specs.Rule.{BoardRule, keeper_first}
use Rattle.pt_board.proofs.Moves.{begins}
use Rattle.pt_board.proofs.slots.Slots.new.Goals as goal

pub new-requires : goal.new-requires
new-requires c = subst (λ (xs : List Item). BoardRule c.args.graph.now (opening (replicate 32 0) xs (keeper_first c.args.graph.now))) (sym c.in_ok-items.ensures) (begins c.args.graph.now)
