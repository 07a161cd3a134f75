use Rattle.std.proofs.Common.{◌≡◌, ◌<◌, ℕ, None, Some, slice_get}
use Rattle.pt_turn.specs.Platforms.{PlatformView}
use Rattle.pt_engine.proofs.asking.first_fault.Given as goal

abbrev pub invariant-loop-i : goal.invariant-loop-i
invariant-loop-i l = (j : ℕ) (w : PlatformView) → j < l.i → slice_get l.platforms j ≡ Some w → w.fault ≡ None
