use Rattle.std.proofs.Common.{◌≡◌, ◌+◌, ◌*◌, ◌<◌, ℕ, false}
use Rattle.std.specs.Int.{bit_at}
use Rattle.pt_causality.specs.Delays.{least_of}
use Rattle.pt_queue.specs.Tagged.{unit_holds_up}
use Rattle.pt_queue.specs.Marks.{unit_with}
use Rattle.pt_queue.proofs.blocked.holder_in_word.Given as goal

abbrev pub invariant-loop-bit : goal.invariant-loop-bit
invariant-loop-bit l = (i : ℕ) → i < 64 → bit_at l.word i ≡ 1 → bit_at l.left i ≡ 0 → unit_holds_up l.table (least_of l.least) l.unit l.tag l.tags (unit_with (64 * l.index + i)) ≡ false

abbrev pub decreases-loop-bit : goal.decreases-loop-bit
decreases-loop-bit l = l.left
