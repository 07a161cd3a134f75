-- Each platform's part of the entries of all actors.
use Rattle.std.specs.Prelude.{◌==◌, ℕ, Bool, List, [], ◌∷◌, Option, None, Some}
use Rattle.pt_types.specs.declared.graph.Graph.{Graph}
use Rattle.pt_types.specs.declared.rows.Row.{Row}
use Rattle.pt_sensors.specs.declared.sensor_rows.SensorRows.{SensorRows}
use Rattle.pt_types.specs.Lookups.{platform_of}
use Rattle.pt_semantics.specs.Meaning.{rows_until}

-- whether an entry's actor is on platform i
abbrev pub is_entry_on : Graph → ℕ → SensorRows → Bool
is_entry_on g i s = platform_of g s.actor == i

-- an entry of an actor, if it has rows
abbrev pub if_some : ℕ → List Row → Option SensorRows
if_some actor [] = None
if_some actor (row ∷ rows) = Some (record { actor = actor; rows = row ∷ rows })

-- an entry with its rows up to the horizon, if it has any
abbrev pub cut_of : Graph → SensorRows → Option SensorRows
cut_of g s = if_some s.actor (rows_until g.until s.rows)
