use Rattle.std.proofs.Common.{◌≡◌, ◌<◌, ℕ, Some, slice_get}
use Rattle.pt_turn.specs.Platforms.{PlatformView}
use Rattle.pt_confluence.specs.Gathered.{IsItsHistory}
use Rattle.pt_audit.proofs.log.have_not_moved.Given as goal

abbrev pub invariant-loop-i : goal.invariant-loop-i
invariant-loop-i l = (j : ℕ) (v : PlatformView) → j < l.i → slice_get l.platforms j ≡ Some v → IsItsHistory v
