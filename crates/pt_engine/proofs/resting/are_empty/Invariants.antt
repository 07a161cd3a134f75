use Rattle.std.proofs.Common.{◌≡◌, ◌<◌, [], ℕ}
use Rattle.std.specs.Prelude.{slice_index_or}
use Rattle.pt_engine.proofs.resting.are_empty.Given as goal

abbrev pub invariant-loop-l : goal.invariant-loop-l
invariant-loop-l l = (k : ℕ) → k < l.l → slice_index_or l.pipes k [] ≡ []
