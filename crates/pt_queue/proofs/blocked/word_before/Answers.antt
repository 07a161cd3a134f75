use Rattle.std.proofs.Common.{◌+◌, ◌*◌, ◌%◌, arith}
use Rattle.std.proofs.lemmas.Nat.Bits.{bit_at_ones}
use Rattle.pt_queue.proofs.blocked.word_before.Goals as goal

pub returns-in-None : goal.returns-in-None
returns-in-None c = λ x may few is. bit_at_ones 64 ((8 * x.actor + x.group) % 64) (omega arith)
