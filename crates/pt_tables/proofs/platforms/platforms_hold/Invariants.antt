use Rattle.std.proofs.Common.{◌≡◌, ◌<◌, ℕ, Some, slice_get}
use Rattle.pt_semantics.specs.Lists.{Each}
use Rattle.pt_turn.specs.Platforms.{PlatformView}
use Rattle.pt_tables.specs.Held.{IsHeldTurn}
use Rattle.pt_tables.proofs.platforms.platforms_hold.Given as goal

abbrev pub invariant-loop-platform : goal.invariant-loop-platform
invariant-loop-platform l = (k : ℕ) (v : PlatformView) → k < l.platform-index → slice_get l.platforms k ≡ Some v → Each IsHeldTurn v.turns
