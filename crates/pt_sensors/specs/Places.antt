-- The rows that take part in a run, and the order of the list.
use Rattle.std.specs.Prelude.{◌≡◌, ℕ, List, Some, length, slice_get}
use Rattle.pt_types.specs.declared.graph.Graph.{Graph}
use Rattle.pt_types.specs.declared.rows.Row.{Row}
use Rattle.pt_semantics.specs.Meaning.{rows_until}
use Rattle.pt_sensors.specs.declared.sensor_rows.SensorRows.{SensorRows}

-- the rows of each actor that take part in a run: those up to the horizon
abbrev pub of_run : Graph → (ℕ → List Row) → ℕ → List Row
of_run g rows a = rows_until g.until (rows a)

-- the list has one entry for each actor, in the order of the graph
pub record StandInPlace (g : Graph) (entries : List SensorRows) : Type 0 where
  pub count : length entries ≡ length g.actors
  pub places : (k : ℕ) (s : SensorRows) → slice_get entries k ≡ Some s → s.actor ≡ k
