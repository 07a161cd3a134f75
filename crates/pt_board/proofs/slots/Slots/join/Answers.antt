use Rattle.std.proofs.Common.{arith}
use Rattle.pt_board.proofs.Moves.{merges}
use Rattle.pt_board.proofs.slots.Slots.join.Goals as goal

pub join_seat-requires : goal.join_seat-requires
join_seat-requires c =
    (c.requires.0.0, c.requires.1.0, c.requires.1.1, omega (arith, c.args.self.now.sized.0), merges c.args.self.now.table.shared.key c.args.keeper.now.id c.args.keeper.now.me.0 c.args.hand.id c.args.hand.me.0)
