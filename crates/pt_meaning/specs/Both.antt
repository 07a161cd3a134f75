-- The events known at the start and those sent since, together.
use Rattle.std.specs.Prelude.{◌≡◌, ℕ, ◌≤◌, List, Option, None, Some, ℤ, slice_set, true}
use Rattle.pt_tags.specs.declared.tag.Tag.{Tag}
use Rattle.pt_semantics.specs.Firing.{any_present}
use Rattle.pt_semantics.specs.Meaning.{IsFirst, Values, added, waiting, without}
use Rattle.pt_meaning.specs.declared.place.EventPlace.{EventPlace}
use Rattle.pt_meaning.specs.declared.world.WaitingEvents.{WaitingEvents}
use Rattle.pt_meaning.specs.Early.{early_waits, left, IsFiringOrder}
use Rattle.pt_meaning.specs.Waiting.{waits_in, EventsArePlaced, IsPlaceIn}
use Rattle.pt_meaning.specs.Held.{late_value}

-- the value that waits at each input and tag, in either part; if both have one, the early one
abbrev pub all_waits : (ℕ → ℕ) → WaitingEvents → Values
all_waits rank w = added (early_waits (left w.early)) (waits_in rank (late_value w.late))

-- the events of both parts are sound
pub record AreSound (rank : ℕ → ℕ) (actors steps : ℕ) (w : WaitingEvents) : Type 0 where
  pub early : IsFiringOrder rank actors (left w.early)
  pub late : EventsArePlaced rank actors steps (late_value w.late)

-- place x does not come after place y, by tag, rank and actor
abbrev pub IsUpTo : EventPlace → EventPlace → Type 0
IsUpTo x y = (x.tag.time ≤ y.tag.time) × (y.tag.time ≤ x.tag.time → (x.tag.step ≤ y.tag.step) × (y.tag.step ≤ x.tag.step → (x.rank ≤ y.rank) × (y.rank ≤ x.rank → x.actor ≤ y.actor)))

-- the ports with this value at port 0, if it is one
abbrev pub with_first : Option ℤ → List (Option ℤ) → List (Option ℤ)
with_first None ports = ports
with_first (Some v) ports = slice_set ports 0 (Some v)

-- the actor and tag of this place fire first of all, if the events are sound for some ranks
abbrev pub FiresFirstOfAll : WaitingEvents → EventPlace → Type 0
FiresFirstOfAll w next = (rank : ℕ → ℕ) (actors steps : ℕ) → AreSound rank actors steps w → IsFirst rank (all_waits rank w) next.actor next.tag

-- then an event waits for the actor at the tag of this place
abbrev pub HasAnyInput : WaitingEvents → EventPlace → Type 0
HasAnyInput w next = (rank : ℕ → ℕ) (actors steps : ℕ) → AreSound rank actors steps w → any_present (waiting (all_waits rank w) next.actor next.tag) ≡ true

-- then this place is one that an event can have
abbrev pub IsSoundPlace : WaitingEvents → EventPlace → Type 0
IsSoundPlace w next = (rank : ℕ → ℕ) (actors steps : ℕ) → AreSound rank actors steps w → IsPlaceIn rank actors steps next

-- no event waits
abbrev pub NoneWaitsAtAll : WaitingEvents → Type 0
NoneWaitsAtAll w = (rank : ℕ → ℕ) (a p : ℕ) (t : Tag) → all_waits rank w a p t ≡ None

-- if the actor fires first of all at the tag, these are its inputs
abbrev pub GivesAllInputs : WaitingEvents → ℕ → Tag → List (Option ℤ) → Type 0
GivesAllInputs w actor tag inputs = (rank : ℕ → ℕ) (actors steps : ℕ) → AreSound rank actors steps w → IsFirst rank (all_waits rank w) actor tag → inputs ≡ waiting (all_waits rank w) actor tag

-- and its events wait no longer
abbrev pub TakesFirstOfAll : ℕ → Tag → WaitingEvents → WaitingEvents → Type 0
TakesFirstOfAll actor tag old new = (rank : ℕ → ℕ) (actors steps : ℕ) → AreSound rank actors steps old → IsFirst rank (all_waits rank old) actor tag → all_waits rank new ≡ without (all_waits rank old) actor tag

-- events that were sound are sound still
abbrev pub StaySound : WaitingEvents → WaitingEvents → Type 0
StaySound old new = (rank : ℕ → ℕ) (actors steps : ℕ) → AreSound rank actors steps old → AreSound rank actors steps new
