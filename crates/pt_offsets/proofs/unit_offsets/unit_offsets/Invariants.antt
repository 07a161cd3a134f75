use Rattle.std.proofs.Common.{◌≡◌, ◌<◌, ℕ, length, slice_index_or, None}
use Rattle.pt_causality.specs.Delays.{least_of}
use Rattle.pt_offsets.specs.Bounded.{offset_from}
use Rattle.pt_offsets.specs.Greatest.{HasGreatest}
use Rattle.pt_offsets.specs.Margins.{unit_at}
use Rattle.pt_offsets.proofs.unit_offsets.unit_offsets.Given as goal

abbrev pub invariant-loop-group : goal.invariant-loop-group
invariant-loop-group l = record {
  len : length l.offsets.items ≡ l.group;
  each : (k : ℕ) → k < l.group → HasGreatest (length l.bounds) (offset_from l.bounds (least_of l.least) (unit_at l.actor k)) (slice_index_or l.offsets.items k None);
}
