use Rattle.std.proofs.Common.{◌≡◌, ◌<◌, ℕ, Some, slice_get}
use Rattle.pt_semantics.specs.History.{IsLegal}
use Rattle.pt_turn.specs.Platforms.{PlatformView, level_at, rows_at, state_at}
use Rattle.pt_workers.proofs.reporting.show_histories.Given as goal

abbrev pub invariant-loop-i : goal.invariant-loop-i
invariant-loop-i l = (j : ℕ) (v : PlatformView) → j < l.i → slice_get l.platforms j ≡ Some v → IsLegal v.plan.graph (level_at v) v.number (rows_at v) v.turns (state_at v)
