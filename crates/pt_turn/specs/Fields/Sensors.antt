-- The sensors of a platform, and the values of their rows.
use Rattle.std.specs.Prelude.{ℕ, ◌+◌, ◌≤◌, ◌==◌, ◌&&◌, List, [], ◌∷◌, drop, length}
use Rattle.pt_types.specs.declared.graph.Graph.{Graph}
use Rattle.pt_types.specs.declared.rows.Row.{Row}
use Rattle.pt_types.specs.declared.rows.RowAt.{RowAt}
use Rattle.pt_types.specs.Ports.{when}
use Rattle.pt_semantics.specs.Entering.{due}
use Rattle.pt_semantics.specs.Floor.{NothingThere}
use Rattle.pt_semantics.specs.Lists.{Each}
use Rattle.pt_semantics.specs.Meaning.{Values, row_at}
use Rattle.pt_semantics.specs.Platform.{State}
use Rattle.pt_semantics.specs.Rows.{TimesRise}
use Rattle.pt_semantics.specs.Units.{at_input}
use Rattle.pt_causality.specs.Units.{IsUnit}
use Rattle.pt_turn.specs.declared.state.fields.Sensor.{Sensor}

-- a row with its sensor
abbrev pub at_sensor : ℕ → Row → RowAt
at_sensor a row = record { sensor = a; row = row }

-- the values that rows bring to input 0 of sensor a
abbrev pub seen_at : ℕ → List Row → Values
seen_at a rows b p t = when (b == a && p == 0) (row_at rows t)

-- a sensor is sound: its input 0 belongs to a unit of the graph, at most all of its rows have entered, and the times of the
-- others rise
pub record IsSensor (g : Graph) (s : Sensor) : Type 0 where
  pub unit : IsUnit g (at_input g s.actor 0)
  pub entered : s.entered ≤ length s.rows
  pub times : TimesRise (drop s.entered s.rows)

-- the sensors' actor numbers rise, and the first is at least n
abbrev pub RiseFrom : ℕ → List Sensor → Type 0
RiseFrom n [] = Unit {0}
RiseFrom n (s ∷ ss) = (n ≤ s.actor) × RiseFrom (s.actor + 1) ss

-- the sensors of a platform, in the order of the graph
abbrev pub AreSensors : Graph → List Sensor → Type 0
AreSensors g sensors = RiseFrom 0 sensors × Each (IsSensor g) sensors

-- no event waits where a row due by reading r would enter
abbrev pub NeverEnters : State → ℕ → Type 0
NeverEnters s r = NothingThere s.waits (λ a p t. when (p == 0) (row_at (due r (s.left a)) t))
