-- The rows of sensors as a list with an entry for each actor.
use Rattle.std.specs.Prelude.{ℕ, ◌<◌, ◌==◌, List, [], ◌∷◌, ◌++◌, if◌then◌else◌}
use Rattle.pt_types.specs.declared.rows.Row.{Row}
use Rattle.pt_sensors.specs.declared.sensor_rows.SensorRows.{SensorRows}

-- the rows of an actor in the list
abbrev pub rows_for : List SensorRows → ℕ → List Row
rows_for [] a = []
rows_for (s ∷ sensors) a = (if s.actor == a then s.rows else []) ++ rows_for sensors a

-- the entry is for one of the first `actors` actors
abbrev pub IsOfActors : ℕ → SensorRows → Type 0
IsOfActors actors s = s.actor < actors
