use Rattle.std.proofs.Common.{◌≡◌, ◌≤◌, ◌<◌, ℕ, length, slice_index_or}
use Rattle.std.specs.Int.RustNames.{bit_and}
use Rattle.pt_queue.proofs.blocked.shared_end.Given as goal

abbrev pub invariant-loop-index : goal.invariant-loop-index
invariant-loop-index l = (n : ℕ) → l.index ≤ n → n < l.end → (n < length l.before) × (bit_and (slice_index_or l.marks n 0) (slice_index_or l.before n 0) ≡ 0)
