-- A platform as contracts see it, and its invariant.
use Rattle.std.specs.Prelude.{ℕ, ℤ, ◌+◌, ◌*◌, ◌<◌, ◌≤◌, Bool, List, Option, None, Some, MatchOption, length}
use Rattle.std.specs.Arc.{arc_value}
use Rattle.std.specs.List.{flat_map}
use Rattle.pt_types.specs.declared.graph.Graph.{Graph}
use Rattle.pt_types.specs.declared.rows.Row.{Row}
use Rattle.pt_types.specs.declared.firing.Event.{Event}
use Rattle.pt_types.specs.declared.firing.OnLink.{OnLink}
use Rattle.pt_semantics.specs.Closing.{on_link}
use Rattle.pt_semantics.specs.Paced.{IsClosing, IsNextReading}
use Rattle.pt_semantics.specs.Platform.{State}
use Rattle.pt_semantics.specs.Readings.{later_of}
use Rattle.pt_semantics.specs.Rows.{FitRows}
use Rattle.pt_semantics.specs.Turn.{Turn}
use Rattle.pt_causality.specs.Ranked.{level_of}
use Rattle.pt_offsets.specs.Plans.{IsAdmitted, Parts}
use Rattle.pt_turn.specs.declared.state.fields.OpenClaim.{OpenClaim}
use Rattle.pt_turn.specs.declared.state.fields.Sensor.{Sensor}
use Rattle.pt_queue.specs.Events.{waiting_in}
use Rattle.pt_turn.specs.Fields.State.{busy_in, left_in, rows_at_sensors, state_of, states_in, IsSound}
use Rattle.pt_turn.specs.Fields.Sensors.{AreSensors}
use Rattle.pt_turn.specs.Steps.{AreEmpty, HasRoom, NoneSeenBefore, count_due}
use Rattle.pt_turn.specs.declared.fault.TurnFault.{TurnFault}
use Rattle.pt_turn.specs.declared.room.Room.{Room}
use Rattle.pt_turn.specs.declared.platform.Platform.TheInside.{Inside}
use Rattle.pt_turn.specs.Running.{Ran}
use Rattle.pt_turn.specs.TakenEnds.{MarksEnds}

-- platform `number` of a plan: its sensors with the rows that it opened with, its recorded turns, the parts of the state
-- after them, why no turn may follow, and what turn it has memory for
pub record PlatformView : Type 0 where
  pub plan : Parts
  pub number : ℕ
  pub sensors : List Sensor
  pub turns : List Turn
  pub events : List Event
  pub open_claims : List OpenClaim
  pub states : List ℤ
  pub outbox : List OnLink
  pub reading : Option ℕ
  pub closed : Bool
  pub claims : ℕ
  pub fault : Option TurnFault
  pub room : Option Room

-- all messages taken in these turns
abbrev pub messages_of : List Turn → List OnLink
messages_of turns = flat_map (λ (turn : Turn). turn.taken) turns

-- the abstract state of a platform
abbrev pub state_at : PlatformView → State
state_at v = record {
  waits = waiting_in v.events;
  busy = busy_in v.open_claims;
  states = states_in v.states;
  left = left_in v.sensors;
  outbox = λ l. on_link l v.outbox;
  taken = λ l. on_link l (messages_of v.turns);
  reading = v.reading;
  closed = v.closed;
  claims = v.claims;
}

-- the rows with which a platform opened
abbrev pub rows_at : PlatformView → ℕ → List Row
rows_at v = rows_at_sensors v.sensors

-- the levels of the plan's actors
abbrev pub level_at : PlatformView → ℕ → ℕ
level_at v = level_of v.plan.ranks

-- the graph of a platform's plan
abbrev pub platform_graph : Inside → Graph
platform_graph p = (arc_value p.plan).graph

-- a platform as contracts see it, from its fields
abbrev pub view_of : Inside → PlatformView
view_of p = record {
  plan = arc_value p.plan;
  number = p.number;
  sensors = p.progress.fields.sensors.items;
  turns = p.progress.history.turns;
  events = p.progress.fields.queue.events;
  open_claims = p.progress.fields.open_claims.items;
  states = p.progress.fields.states.items;
  outbox = p.progress.fields.outbox.items;
  reading = p.progress.fields.reading;
  closed = p.progress.fields.closed;
  claims = p.progress.fields.claims;
  fault = p.progress.fault;
  room = p.room;
}

-- the given reading, or the last one if that is greater
abbrev pub raised_to : Option ℕ → ℕ → ℕ
raised_to None r = r
raised_to (Some p) r = later_of p r

-- there is memory for a turn at this reading, with that many results, messages and claims
pub record IsRoomy (p : Inside) (r : Room) : Type 0 where
  pub fields : HasRoom (platform_graph p) p.progress.fields p.progress.lists (raised_to p.progress.fields.reading r.reading) r.done r.taken r.most
  pub turns : 0 < p.progress.history.room.turns
  pub posted : r.done ≤ p.progress.history.room.posted
  pub rows : count_due (platform_graph p) (raised_to p.progress.fields.reading r.reading) p.progress.fields ≤ p.progress.history.room.rows
  pub taken : r.taken ≤ p.progress.history.room.taken
  pub claimed : r.most ≤ p.progress.history.room.claimed
  pub sent : length p.progress.fields.outbox.items + r.done * length (platform_graph p).links + length (platform_graph p).links ≤ p.progress.history.room.sent

-- the invariant of a platform: its recorded turns follow one another from its opening, and lead to its state
pub record IsPlatform (p : Inside) : Type 0 where
  pub admitted : IsAdmitted (arc_value p.plan)
  pub sound : IsSound (platform_graph p) p.progress.fields
  pub sensors : AreSensors (platform_graph p) p.progress.fields.sensors.items
  pub fit : FitRows (platform_graph p) (rows_at_sensors p.progress.fields.sensors.items)
  pub closing : IsClosing (platform_graph p) p.number p.closing
  pub claims : p.progress.fields.claims ≤ (platform_graph p).claims
  pub ran : Ran (platform_graph p) (level_of (arc_value p.plan).ranks) p.number (rows_at_sensors p.progress.fields.sensors.items) p.progress.history.turns (state_of p.progress.fields (messages_of p.progress.history.turns)) p.progress.fault
  pub ended : MarksEnds (length (platform_graph p).links) p.progress.ended (messages_of p.progress.history.turns)
  pub empty : AreEmpty p.progress.lists
  pub sent : length p.progress.fields.outbox.items ≤ p.progress.history.room.sent
  pub room : MatchOption p.room (Unit {0}) (IsRoomy p)
  pub next : MatchOption p.next (Unit {0}) (IsNextReading (platform_graph p) p.number (state_of p.progress.fields (messages_of p.progress.history.turns)))
  pub next_row : NoneSeenBefore p.progress.next_row (left_in p.progress.fields.sensors.items)
