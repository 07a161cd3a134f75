use Rattle.std.proofs.Common.{◌≡◌, ◌*◌, ◌<◌, ◌≤◌, ℕ, false, length}
use Rattle.pt_causality.specs.Delays.{least_of}
use Rattle.pt_queue.specs.Tagged.{unit_holds_up}
use Rattle.pt_queue.specs.Marks.{unit_with}
use Rattle.pt_queue.proofs.few_words.holder_in_few.Given as goal

abbrev pub invariant-loop-left : goal.invariant-loop-left
invariant-loop-left l = record {
  few : l.left ≤ length l.marks;
  done : (n : ℕ) → 64 * l.left ≤ n → n < 64 * length l.marks → unit_holds_up l.table (least_of l.least) l.unit l.tag l.tags (unit_with n) ≡ false;
}

abbrev pub decreases-loop-left : goal.decreases-loop-left
decreases-loop-left l = l.left
