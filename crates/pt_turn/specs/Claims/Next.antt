-- Readings at which something can happen, for each sensor and each unit.
use Rattle.std.specs.Prelude.{◌≡◌, ◌∷◌, [], ℕ, List, Option, None, drop}
use Rattle.pt_tags.specs.declared.tag.Tag.{Tag}
use Rattle.pt_tags.specs.Tags.{UpTo}
use Rattle.pt_types.specs.declared.graph.Graph.{Graph}
use Rattle.pt_types.specs.declared.graph.Unit.{Unit}
use Rattle.pt_types.specs.declared.rows.Row.{Row}
use Rattle.pt_types.specs.declared.firing.Task.{Task}
use Rattle.pt_semantics.specs.Meaning.{Values}
use Rattle.pt_semantics.specs.Paced.{IsPaced}
use Rattle.pt_semantics.specs.Units.{HasEvent}
use Rattle.pt_causality.specs.Units.{IsUnit}
use Rattle.pt_turn.specs.declared.state.fields.Sensor.{Sensor}

-- the default past the end of a list of sensors
abbrev pub no_sensor : Sensor
no_sensor = record { actor = 0; rows = []; entered = 0 }

-- the next row of a sensor is seen at c
abbrev pub IsSeenNext : Sensor → ℕ → Type 0
IsSeenNext s c = (row : Row) × (rest : List Row) × (drop s.entered s.rows ≡ row ∷ rest) × (c ≡ row.seen)

-- c is the paced reading of a unit that has no open claim, at the least tag of its events
abbrev pub IsPacedNext : Graph → Values → (Unit → Option Task) → Unit → ℕ → Type 0
IsPacedNext g waits busy u c = (t : Tag) × HasEvent g waits u t × ((w : Tag) → HasEvent g waits u w → UpTo t w) × (busy u ≡ None) × IsPaced g u t c

-- c is such a reading of some unit of the graph
abbrev pub IsPacedOfSome : Graph → Values → (Unit → Option Task) → ℕ → Type 0
IsPacedOfSome g waits busy c = (u : Unit) × IsUnit g u × IsPacedNext g waits busy u c
