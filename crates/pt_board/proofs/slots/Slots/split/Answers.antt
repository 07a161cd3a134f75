use Rattle.std.proofs.Common.{arith}
use Rattle.pt_board.proofs.Moves.{forks}
use Rattle.pt_board.proofs.slots.Slots.split.Goals as goal

pub split_seat-requires : goal.split_seat-requires
split_seat-requires c = (c.requires.0, omega (arith, c.args.self.now.sized.0), forks c.args.self.now.table.shared.key c.args.keeper.now.id c.args.keeper.now.me.0)
