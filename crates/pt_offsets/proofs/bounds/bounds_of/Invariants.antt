use Rattle.std.proofs.Common.{◌≡◌, ◌<◌, ℕ, length}
use Rattle.pt_semantics.specs.Bounds.{bound_of}
use Rattle.pt_offsets.specs.Bounded.{bound_at}
use Rattle.pt_offsets.proofs.bounds.bounds_of.Given as goal

abbrev pub invariant-loop-number : goal.invariant-loop-number
invariant-loop-number l = record {
  len : length l.bounds.items ≡ l.number;
  each : (a : ℕ) → a < l.number → bound_at l.bounds.items a ≡ bound_of l.graph a;
}
