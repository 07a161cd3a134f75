use Rattle.std.proofs.Common.{◌≡◌, ◌<◌, ℕ, length}
use Rattle.pt_offsets.specs.Timings.{IsTiming, timing_at}
use Rattle.pt_offsets.proofs.timing.timings.Given as goal

abbrev pub invariant-loop-number : goal.invariant-loop-number
invariant-loop-number l = record {
  len : length l.timings.items ≡ l.number;
  each : (a : ℕ) → a < l.number → IsTiming l.graph a (timing_at l.timings.items a);
}
