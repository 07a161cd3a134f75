use Rattle.std.proofs.Common.{◌≡◌, ◌<◌, [], ℕ, Some, slice_get}
use Rattle.pt_turn.specs.Platforms.{PlatformView}
use Rattle.pt_engine.specs.Idle.{IsIdleUntil}
use Rattle.pt_engine.proofs.resting.all_idle_until.Given as goal

abbrev pub invariant-loop-i : goal.invariant-loop-i
invariant-loop-i l = (j : ℕ) (w : PlatformView) → j < l.i → slice_get l.platforms j ≡ Some w → IsIdleUntil l.least w × (w.open_claims ≡ [])
