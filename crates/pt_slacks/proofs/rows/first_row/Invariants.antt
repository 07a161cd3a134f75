use Rattle.std.proofs.Common.{◌≡◌, ◌<◌, ℕ, length, slice_index}
use Rattle.pt_causality.specs.Delays.{least_of}
use Rattle.pt_slacks.specs.Hops.{hop_at}
use Rattle.pt_slacks.specs.Needs.{IsBase}
use Rattle.pt_slacks.proofs.rows.first_row.Given as goal

abbrev pub invariant-loop-hop : goal.invariant-loop-hop
invariant-loop-hop l = record {
  len : length l.row.items ≡ l.hop-index;
  each : (v : ℕ) → v < l.hop-index → IsBase l.graph (least_of l.least) (hop_at l.hops v).from (slice_index l.row.items v);
}
