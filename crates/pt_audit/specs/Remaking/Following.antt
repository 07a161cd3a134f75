-- Which turns may follow those that a platform has recorded.
use Rattle.std.specs.Prelude.{◌≡◌, Bool, None}
use Rattle.pt_semantics.specs.History.{IsCounted}
use Rattle.pt_semantics.specs.Platform.{State}
use Rattle.pt_semantics.specs.Turn.{IsTurn, Turn}
use Rattle.pt_turn.specs.Platforms.{PlatformView, level_at, state_at}

-- a turn of platform v may follow: no fault came before it, its count is right, and it leads from the platform's state
pub record CanFollow (v : PlatformView) (turn : Turn) : Type 0 where
  pub no_fault : v.fault ≡ None
  pub counted : IsCounted turn
  pub late : Bool
  pub new : State
  pub is : IsTurn v.plan.graph (level_at v) v.number (state_at v) turn late new
