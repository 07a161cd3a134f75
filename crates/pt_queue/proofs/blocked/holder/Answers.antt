use Rattle.std.proofs.Common.{arith}
use Rattle.pt_queue.proofs.blocked.holder.Goals as goal

pub holder_marked-requires : goal.holder_marked-requires
holder_marked-requires c = λ x some few within. absurd (omega (arith, within))
