-- All platforms of a plan.
use Rattle.std.specs.Prelude.{◌≡◌, [], ℕ, List, None, Some, length, option_map, slice_get, unwrap_or}
use Rattle.pt_types.specs.declared.rows.Row.{Row}
use Rattle.pt_types.specs.Lookups.{platform_of}
use Rattle.pt_semantics.specs.Rows.{FitRows}
use Rattle.pt_semantics.specs.Turn.{Turn}
use Rattle.pt_offsets.specs.Plans.{Parts}
use Rattle.pt_turn.specs.Platforms.{PlatformView, rows_at}

-- all platforms of a plan, in the order of its graph, opened with these rows
pub record AreAll (plan : Parts) (rows : ℕ → List Row) (platforms : List PlatformView) : Type 0 where
  pub count : length platforms ≡ length plan.graph.platforms
  pub plans : (i : ℕ) (v : PlatformView) → slice_get platforms i ≡ Some v → v.plan ≡ plan
  pub numbers : (i : ℕ) (v : PlatformView) → slice_get platforms i ≡ Some v → v.number ≡ i
  pub opened : (i a : ℕ) (v : PlatformView) → slice_get platforms i ≡ Some v → platform_of plan.graph a ≡ i → rows_at v a ≡ rows a

-- none of these platforms has made a turn or has a fault
pub record AreNew (platforms : List PlatformView) : Type 0 where
  pub turns : (i : ℕ) (v : PlatformView) → slice_get platforms i ≡ Some v → v.turns ≡ []
  pub faults : (i : ℕ) (v : PlatformView) → slice_get platforms i ≡ Some v → v.fault ≡ None

-- all platforms of a plan, just opened with the rows of a run
pub record AreReady (plan : Parts) (rows : ℕ → List Row) (platforms : List PlatformView) : Type 0 where
  pub all : AreAll plan rows platforms
  pub fresh : AreNew platforms
  pub fit : FitRows plan.graph rows

-- the history of each platform, by its number
abbrev pub histories_of : List PlatformView → ℕ → List Turn
histories_of platforms i = unwrap_or (option_map (λ (v : PlatformView). v.turns) (slice_get platforms i)) []

-- all platforms of some plan, just opened with the rows of some run
abbrev pub IsReady : List PlatformView → Type 0
IsReady platforms = (plan : Parts) × (rows : ℕ → List Row) × AreReady plan rows platforms
