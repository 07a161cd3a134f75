use Rattle.std.proofs.Common.{◌≡◌, ◌<◌, ℕ, length, slice_index}
use Rattle.pt_causality.specs.Delays.{least_of}
use Rattle.pt_slacks.specs.Hops.{hop_at}
use Rattle.pt_slacks.specs.Needs.{IsRaised}
use Rattle.pt_slacks.proofs.rows.next_row.Given as goal

abbrev pub invariant-loop-number : goal.invariant-loop-number
invariant-loop-number l = record {
  len : length l.next.items ≡ l.number;
  each : (v : ℕ) → v < l.number → IsRaised l.hops (least_of l.least) (slice_index l.row) (hop_at l.hops v).from (slice_index l.row v) (slice_index l.next.items v);
}
