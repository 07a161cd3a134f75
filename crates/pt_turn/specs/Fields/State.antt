-- The state that the fields of a platform represent.
use Rattle.std.specs.Prelude.{◌≡◌, ◌<◌, ℕ, ◌==◌, List, [], Option, Some, None, ℤ, pos, drop, length, slice_index_or, unwrap_or}
use Rattle.pt_tags.specs.declared.tag.Tag.{Tag}
use Rattle.pt_types.specs.declared.graph.Graph.{Graph}
use Rattle.pt_types.specs.declared.rows.Row.{Row}
use Rattle.pt_types.specs.declared.firing.Task.{Task}
use Rattle.pt_types.specs.declared.firing.OnLink.{OnLink}
use Rattle.pt_types.specs.declared.graph.Unit.{Unit}
use Rattle.pt_types.specs.Ports.{when}
use Rattle.pt_semantics.specs.Lists.{first_of, Each, IsIn}
use Rattle.pt_semantics.specs.Units.{at_input, same_part, unit_of}
use Rattle.pt_semantics.specs.Platform.{State}
use Rattle.pt_semantics.specs.Closing.{on_link}
use Rattle.pt_semantics.specs.Safe.{NothingSafe}
use Rattle.pt_causality.specs.Units.{IsUnit}
use Rattle.pt_queue.specs.Groups.{AreGroups}
use Rattle.pt_queue.specs.Events.{waiting_in}
use Rattle.pt_turn.specs.declared.state.fields.OpenClaim.{OpenClaim}
use Rattle.pt_turn.specs.declared.state.fields.Sensor.{Sensor}
use Rattle.pt_turn.specs.declared.state.fields.Fields.{Fields}

-- the open claim of each unit
abbrev pub busy_in : List OpenClaim → Unit → Option Task
busy_in claims u = first_of (λ (c : OpenClaim). when (same_part c.unit u) (Some c.task)) claims

-- the state of each actor; 0 past the end of the list
abbrev pub states_in : List ℤ → ℕ → ℤ
states_in states a = slice_index_or states a (pos 0)

-- the rows of a sensor that have not entered, if it is actor a
abbrev pub rows_left : ℕ → Sensor → Option (List Row)
rows_left a s = when (s.actor == a) (Some (drop s.entered s.rows))

-- the rows of each sensor that have not entered; an actor that is none of these sensors has none
abbrev pub left_in : List Sensor → ℕ → List Row
left_in sensors a = unwrap_or (first_of (rows_left a) sensors) []

-- all rows of each sensor, those that have entered too
abbrev pub rows_at_sensors : List Sensor → ℕ → List Row
rows_at_sensors sensors a = unwrap_or (first_of (λ (s : Sensor). when (s.actor == a) (Some s.rows)) sensors) []

-- the state represented by the fields and by all messages taken
abbrev pub state_of : Fields → List OnLink → State
state_of f taken = record {
  waits = waiting_in f.queue.events;
  busy = busy_in f.open_claims.items;
  states = states_in f.states.items;
  left = left_in f.sensors.items;
  outbox = λ l. on_link l f.outbox.items;
  taken = λ l. on_link l taken;
  reading = f.reading;
  closed = f.closed;
  claims = f.claims;
}

-- an open claim has the unit of its task, that unit is in the graph, and the claim is the one found for it
pub record IsOpen (g : Graph) (claims : List OpenClaim) (c : OpenClaim) : Type 0 where
  pub unit : c.unit ≡ unit_of g c.task
  pub is_unit : IsUnit g c.unit
  pub found : busy_in claims c.unit ≡ Some c.task

-- an open claim has this task and unit u; or, for None, no open claim has this task
abbrev pub IsFound : List OpenClaim → Task → Option Unit → Type 0
IsFound claims task None = (c : OpenClaim) → IsIn c claims → c.task ≡ task → ⊥
IsFound claims task (Some u) = (c : OpenClaim) × IsIn c claims × (c.unit ≡ u) × (c.task ≡ task)

-- no unit is safe at a reading below n
abbrev pub NoneSafeBefore : Graph → Fields → ℕ → Type 0
NoneSafeBefore g f n = (r : ℕ) → r < n → NothingSafe g (waiting_in f.queue.events) (busy_in f.open_claims.items) r

-- the invariant of the fields: tables and the outbox fit this graph, open claims are sound, and events wait only at inputs of its units,
-- and no unit is safe where the fields say so
pub record IsSound (g : Graph) (f : Fields) : Type 0 where
  pub groups : AreGroups g f.queue.groups
  pub states : length f.states.items ≡ length g.actors
  pub open_claims : Each (IsOpen g f.open_claims.items) f.open_claims.items
  pub links : f.outbox.links ≡ length g.links
  pub at_units : (a p : ℕ) (t : Tag) (v : ℤ) → waiting_in f.queue.events a p t ≡ Some v → IsUnit g (at_input g a p)
  pub none_safe : NoneSafeBefore g f f.none_safe_before
