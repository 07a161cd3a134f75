use Rattle.std.proofs.Common.{◌+◌, ap}
use Rattle.pt_history.proofs.Blocks.{shifted}
use Rattle.pt_history.proofs.indices.index_in.Goals as goal

pub returns : goal.returns
returns c = ap (λ n. c.args.block.base + n) (shifted c.args.block.bits c.args.number c.requires)
