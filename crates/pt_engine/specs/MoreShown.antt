-- What represents all platforms still does, with one more row.
use Rattle.std.specs.Prelude.{◌≡◌, ℕ, List, Some, set, slice_get}
use Rattle.pt_tags.specs.declared.message.Message.{Message}
use Rattle.pt_types.specs.declared.firing.Done.{Done}
use Rattle.pt_types.specs.declared.rows.Row.{Row}
use Rattle.pt_types.specs.Lookups.{platform_of}
use Rattle.pt_semantics.specs.Visits.{RunState}
use Rattle.pt_offsets.specs.Plans.{Parts}
use Rattle.pt_live_laws.specs.Growth.Growing.{followed, grown_together, just}
use Rattle.pt_turn.specs.Arrived.{HasArrived}
use Rattle.pt_turn.specs.Platforms.{PlatformView}
use Rattle.pt_engine.specs.Shown.{AreShown}

-- if a row arrives on its platform, the platforms, pipes and pending results represent all platforms together over the rows with it
abbrev pub ShownGrows : Type 0
ShownGrows = (plan : Parts) (rows : ℕ → List Row) (x : RunState) (platforms : List PlatformView) (pipes : List (List Message)) (results : List (List Done)) → AreShown plan rows x platforms pipes results →
    (i sensor : ℕ) (row : Row) (v w : PlatformView) → slice_get platforms i ≡ Some v → platform_of plan.graph sensor ≡ i → HasArrived v w sensor row →
    AreShown plan (followed rows (just sensor row)) (grown_together plan.graph (just sensor row) x) (set platforms i w) pipes results
