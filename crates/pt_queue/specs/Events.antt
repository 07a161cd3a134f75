-- A list of events, seen as the value that waits at each input and tag.
use Rattle.std.specs.Prelude.{◌≡◌, ℕ, ◌+◌, ◌*◌, ◌<◌, ◌≤◌, ◌⊎◌, ◌==◌, ◌&&◌, List, Option, Some, None, length, ◌≢◌}
use Rattle.pt_tags.specs.declared.tag.Tag.{Tag}
use Rattle.pt_tags.specs.declared.tag.Delay.{Delay}
use Rattle.pt_tags.specs.Tags.{same_tag, UpTo, Before, plus}
use Rattle.pt_types.specs.declared.firing.Event.{Event}
use Rattle.pt_types.specs.declared.graph.Unit.{Unit}
use Rattle.pt_types.specs.declared.graph.Graph.{Graph}
use Rattle.pt_types.specs.Ports.{when}
use Rattle.pt_semantics.specs.Lists.{first_of}
use Rattle.pt_semantics.specs.Edges.{Edge}
use Rattle.pt_semantics.specs.Ranks.{sum_along}
use Rattle.pt_semantics.specs.Paths.{Goes, IsLeast}
use Rattle.pt_semantics.specs.Meaning.{Values}
use Rattle.pt_semantics.specs.Units.{HasEvent}
use Rattle.pt_queue.specs.declared.groups.Groups.{Groups}
use Rattle.pt_queue.specs.declared.waiting.Waiting.{Waiting}

-- a queue as contracts see it: the groups of the actors' inputs, its events, and how many more events fit in memory
pub record Queued : Type 0 where
  pub groups : List Groups
  pub events : List Event
  pub spare : ℕ

-- the value that an event brings to an actor's input at a tag
abbrev pub value_in : Event → Values
value_in e a p t = when (e.actor == a && e.port == p && same_tag e.tag t) (Some e.value)

-- the value that waits at each input and tag, for a list of events
abbrev pub waiting_in : List Event → Values
waiting_in events a p t = first_of (λ (e : Event). value_in e a p t) events

-- an event is at one of the table's actors, at one of eight inputs
pub record IsPlaced (table : List Groups) (e : Event) : Type 0 where
  pub actor : e.actor < length table
  pub port : e.port < 8

-- t is the least tag at which a unit has an event; or, for None, the unit has no event
abbrev pub IsLeastTag : Graph → Values → Unit → Option Tag → Type 0
IsLeastTag g waits u None = (t : Tag) → HasEvent g waits u t → ⊥
IsLeastTag g waits u (Some t) = HasEvent g waits u t × ((w : Tag) → HasEvent g waits u w → UpTo t w)

-- the place of a unit, eight for each actor
abbrev pub unit_place : Unit → ℕ
unit_place u = 8 * u.actor + u.group

-- w is the first unit with events whose place isn't before n, with its least tag; or, for None, no unit with such a place has events; in both cases each unit with events has its group below 8
abbrev pub IsFirstWaiting : Graph → Values → ℕ → Option Waiting → Type 0
IsFirstWaiting g waits n None = (u : Unit) (t : Tag) → HasEvent g waits u t → (u.group < 8) × (unit_place u < n)
IsFirstWaiting g waits n (Some w) = IsLeastTag g waits w.unit (Some w.tag) × (n ≤ unit_place w.unit) × ((u : Unit) (t : Tag) → HasEvent g waits u t → (u.group < 8) × ((unit_place u < n) ⊎ (unit_place w.unit ≤ unit_place u)))

-- no unit but u has events
abbrev pub IsOnlyUnit : Graph → Values → Unit → Type 0
IsOnlyUnit g waits u = (x : Unit) (t : Tag) → HasEvent g waits x t → x ≡ u

-- no event that waits for another unit leads to unit u at t or before
abbrev pub IsClear : Graph → Values → Unit → Tag → Type 0
IsClear g waits u t = (x : Unit) (w : Tag) (path : List Edge) → x ≢ u → HasEvent g waits x w → Goes g x path u → Before t (plus w (sum_along path))

-- an event that waits for another unit leads to unit u at t or before: its tag plus the least delay from there is at most t
pub record IsBlocked (g : Graph) (waits : Values) (u : Unit) (t : Tag) : Type 0 where
  pub unit : Unit
  pub tag : Tag
  pub delay : Delay
  pub other : unit ≢ u
  pub event : HasEvent g waits unit tag
  pub least : IsLeast g unit u delay
  pub in_time : UpTo (plus tag delay) t
