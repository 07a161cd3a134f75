-- The rows with which a platform opens.
use Rattle.std.specs.Prelude.{◌≡◌, ◌<◌, ◌==◌, ℕ, List, [], Some, length, map, unwrap_or}
use Rattle.pt_types.specs.declared.graph.Graph.{Graph}
use Rattle.pt_types.specs.declared.rows.Row.{Row}
use Rattle.pt_types.specs.Ports.{when}
use Rattle.pt_sensors.specs.declared.sensor_rows.SensorRows.{SensorRows}
use Rattle.pt_types.specs.Lookups.{platform_of}
use Rattle.pt_semantics.specs.Lists.{Each, first_of}
use Rattle.pt_semantics.specs.Rows.{FitsRow, NeverFalls, TimesRise}
use Rattle.pt_turn.specs.declared.state.fields.Sensor.{Sensor}
use Rattle.pt_turn.specs.Fields.Sensors.{RiseFrom}

-- the rows given for each actor; an actor without an entry has none
abbrev pub rows_handed : List SensorRows → ℕ → List Row
rows_handed handed a = unwrap_or (first_of (λ (s : SensorRows). when (s.actor == a) (Some s.rows)) handed) []

-- a sensor none of whose rows has entered
abbrev pub unentered : SensorRows → Sensor
unentered s = record { actor = s.actor; rows = s.rows; entered = 0 }

-- the rows of a sensor of platform i, as a run gives them: each fits, seen readings never fall, and times rise
pub record IsHanded (g : Graph) (i : ℕ) (s : SensorRows) : Type 0 where
  pub there : s.actor < length g.actors
  pub home : platform_of g s.actor ≡ i
  pub fit : Each (FitsRow g s.actor) s.rows
  pub in_order : NeverFalls s.rows
  pub times : TimesRise s.rows

-- the rows of sensors of platform i, in the order of the graph
abbrev pub AreHanded : Graph → ℕ → List SensorRows → Type 0
AreHanded g i handed = RiseFrom 0 (map unentered handed) × Each (IsHanded g i) handed
