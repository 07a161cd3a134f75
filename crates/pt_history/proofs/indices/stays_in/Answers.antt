use Rattle.std.proofs.Common.{◌+◌, ◌/◌, ◌%◌, ◌^◌, eqb-true}
use Rattle.pt_history.proofs.Blocks.{level}
use Rattle.pt_history.proofs.indices.stays_in.Goals as goal

pub returns : goal.returns
returns c = λ yes. level c.args.block c.args.number (eqb-true (c.args.block.bits / 2 ^ (c.args.number + 1) % 2) 0 yes)
