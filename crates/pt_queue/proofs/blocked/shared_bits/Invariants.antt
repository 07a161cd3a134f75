use Rattle.std.proofs.Common.{◌≡◌, ◌≤◌, ◌<◌, ℕ, slice_index_or}
use Rattle.std.specs.Int.{bit_at}
use Rattle.std.specs.Int.RustNames.{bit_and}
use Rattle.pt_queue.proofs.blocked.shared_bits.Given as goal

abbrev pub invariant-loop-index : goal.invariant-loop-index
invariant-loop-index l = (n i : ℕ) → l.from ≤ n → n < l.index → bit_at l.shared i ≡ 0 → bit_at (bit_and (slice_index_or l.marks n 0) (slice_index_or l.before n 0)) i ≡ 0
