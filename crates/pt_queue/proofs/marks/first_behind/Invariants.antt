use Rattle.std.proofs.Common.{◌≡◌, ◌-◌, ◌*◌, ◌<◌, ◌≤◌, ℕ, length}
use Rattle.pt_causality.specs.Before.{bit_of}
use Rattle.pt_queue.proofs.marks.first_behind.Given as goal

abbrev pub invariant-loop-index : goal.invariant-loop-index
invariant-loop-index l = record {
  from : l.start ≤ l.index;
  none : (n : ℕ) → 64 * l.start ≤ n → n < 64 * l.index → bit_of l.words n ≡ 0;
}

abbrev pub decreases-loop-index : goal.decreases-loop-index
decreases-loop-index l = length l.words - l.index
