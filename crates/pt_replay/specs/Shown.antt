-- How an engine's platforms, airways and pending results represent all platforms together, between visits.
use Rattle.std.specs.Prelude.{◌≡◌, ℕ, List, None, Some, length, slice_get}
use Rattle.pt_types.specs.declared.firing.Done.{Done}
use Rattle.pt_types.specs.declared.graph.Link.{Link}
use Rattle.pt_types.specs.declared.rows.Row.{Row}
use Rattle.pt_types.specs.Lookups.{platform_of}
use Rattle.pt_semantics.specs.Kept.{kept}
use Rattle.pt_offsets.specs.Plans.{Parts}
use Rattle.pt_turn.specs.Platforms.{PlatformView, state_at}
use Rattle.pt_turn.specs.All.{AreAll}
use Rattle.pt_semantics.specs.Arrivals.{AirwayView}
use Rattle.pt_replay_laws.specs.ReplayState.{ReplayState}
use Rattle.pt_engine.specs.Shown.{ArePending}

-- the platforms, airways and pending results represent all platforms together. Nothing is said of links that lead to a platform
-- with a fault: it makes no turn any more, so nothing looks at them
pub record AreShownInReplay (plan : Parts) (rows : ℕ → List Row) (x : ReplayState) (platforms : List PlatformView) (airways : List AirwayView) (results : List (List Done)) : Type 0 where
  pub all : AreAll plan rows platforms
  pub states : (i : ℕ) (v : PlatformView) → slice_get platforms i ≡ Some v → x.at i ≡ state_at v
  pub kept_turns : (i : ℕ) (v : PlatformView) → slice_get platforms i ≡ Some v → v.turns ≡ kept (x.did i)
  pub links : length airways ≡ length plan.graph.links
  pub ways : (l : ℕ) (link : Link) (v : PlatformView) (a : AirwayView) → slice_get plan.graph.links l ≡ Some link → slice_get platforms (platform_of plan.graph link.to) ≡ Some v → v.fault ≡ None →
      slice_get airways l ≡ Some a → x.airways l ≡ a
  pub pending : ArePending plan.graph platforms results
