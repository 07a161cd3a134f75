use Rattle.std.proofs.Common.{◌≡◌, ◌<◌, ℕ, length, slice_index}
use Rattle.pt_causality.specs.Delays.{least_of}
use Rattle.pt_types.specs.Lookups.{kind_of}
use Rattle.pt_slacks.specs.Needs.{HasSlack, IsNeed}
use Rattle.pt_slacks.proofs.answer.all_needs.Given as goal

abbrev pub invariant-loop-number : goal.invariant-loop-number
invariant-loop-number l = record {
  len : length l.needs.items ≡ l.number;
  each : (a : ℕ) → a < l.number → HasSlack (kind_of l.graph a) → IsNeed l.graph l.hops (least_of l.least) (slice_index l.row) a (slice_index l.needs.items a);
}
