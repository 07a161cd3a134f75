use Rattle.std.proofs.Common.{◌<◌, ◌≢◌, ℕ, slice_index}
use Rattle.pt_causality.specs.Delays.{least_of}
use Rattle.pt_slacks.specs.Hops.{hop_at}
use Rattle.pt_slacks.specs.Needs.{by_hop}
use Rattle.pt_slacks.proofs.ring.raiser.Given as goal

abbrev pub invariant-loop-number : goal.invariant-loop-number
invariant-loop-number l = (w : ℕ) → w < l.number → by_hop l.hops (least_of l.least) (slice_index l.row) (hop_at l.hops l.at).from w ≢ l.slack
