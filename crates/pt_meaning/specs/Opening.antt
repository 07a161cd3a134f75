-- The events known at the start, in the program's order: actor by actor, sensor by sensor, row by row.
use Rattle.std.specs.Prelude.{ℕ, ◌==◌, ◌&&◌, nat_lt, List, Some, ℤ}
use Rattle.pt_tags.specs.Tags.{same_tag}
use Rattle.pt_types.specs.declared.graph.Graph.{Graph}
use Rattle.pt_types.specs.declared.rows.Row.{Row}
use Rattle.pt_types.specs.declared.kind.Kind.{Kind}
use Rattle.pt_types.specs.Ports.{when}
use Rattle.pt_types.specs.Lookups.{kind_of}
use Rattle.pt_semantics.specs.Meaning.{Values, at_time, start_at, row_at, rows_until}
use Rattle.pt_sensors.specs.declared.sensor_rows.SensorRows.{SensorRows}
use Rattle.pt_sensors.specs.Listed.{rows_for}

-- one event at input 0 of an actor, at step 0 of a time
abbrev pub start_event : ℕ → ℕ → ℤ → Values
start_event actor time value a p t = when (actor == a && p == 0 && same_tag (at_time time) t) (Some value)

-- the starting event of an actor of this kind, if the kind has one
abbrev pub start_one : Graph → ℕ → Kind → Values
start_one g actor kind a p t = when (actor == a && p == 0) (start_at g kind t)

-- the starting events of the actors below n
abbrev pub starts_below : Graph → ℕ → Values
starts_below g n a p t = when (nat_lt a n && p == 0) (start_at g (kind_of g a) t)

-- the rows of an actor up to the horizon
abbrev pub rows_of_actor : ℕ → ℕ → List Row → Values
rows_of_actor until actor rows a p t = when (actor == a && p == 0) (row_at (rows_until until rows) t)

-- the rows of all sensors up to the horizon
abbrev pub rows_from_sensors : ℕ → List SensorRows → Values
rows_from_sensors until sensors a p t = when (p == 0) (row_at (rows_until until (rows_for sensors a)) t)

-- the rows of each actor that take part in the run: those up to the horizon
abbrev pub rows_of_run : Graph → List SensorRows → ℕ → List Row
rows_of_run g sensors = λ a. rows_until g.until (rows_for sensors a)
