use Rattle.pt_board.proofs.Opening.{opens}
use Rattle.pt_board.proofs.keeper.Keeper.new.Goals as goal

pub invariant_of-result : goal.invariant_of-result
invariant_of-result c = opens c.args.graph.now c.args.seat c.requires.seat.0 c.requires.seat.1
