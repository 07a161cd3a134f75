-- What is true before a visit still is, if a row arrives.
use Rattle.std.specs.Prelude.{◌≡◌, ℕ, List, Some, set, slice_get}
use Rattle.pt_tags.specs.declared.message.Message.{Message}
use Rattle.pt_io.specs.Clocks.{ClockView}
use Rattle.pt_types.specs.declared.firing.Done.{Done}
use Rattle.pt_types.specs.declared.rows.Row.{Row}
use Rattle.pt_offsets.specs.Plans.{Parts}
use Rattle.pt_live_laws.specs.Growth.Growing.{followed, just}
use Rattle.pt_turn.specs.Arrived.{HasArrived, MayArrive}
use Rattle.pt_turn.specs.Platforms.{PlatformView}
use Rattle.pt_fixed_order.specs.Between.{BeforeVisit}

-- all is as before the visit of platform j, over the rows with one more that arrived on platform i
abbrev pub BeforeGrows : Type 0
BeforeGrows = (plan : Parts) (rows : ℕ → List Row) (most j : ℕ) (began now : List ClockView) (platforms : List PlatformView) (pipes : List (List Message)) (results : List (List Done)) → BeforeVisit plan rows most j began now platforms pipes results →
    (i sensor : ℕ) (row : Row) (v w : PlatformView) → slice_get platforms i ≡ Some v → MayArrive v sensor row → HasArrived v w sensor row →
    BeforeVisit plan (followed rows (just sensor row)) most j began now (set platforms i w) pipes results
