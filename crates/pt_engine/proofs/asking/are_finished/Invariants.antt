use Rattle.std.proofs.Common.{◌≡◌, ◌<◌, ℕ, Some, slice_get}
use Rattle.pt_semantics.specs.Linked.{IsFinished}
use Rattle.pt_turn.specs.Platforms.{PlatformView, state_at}
use Rattle.pt_engine.proofs.asking.are_finished.Given as goal

abbrev pub invariant-loop-i : goal.invariant-loop-i
invariant-loop-i l = (j : ℕ) (w : PlatformView) → j < l.i → slice_get l.platforms j ≡ Some w → IsFinished w.plan.graph w.number (state_at w)
