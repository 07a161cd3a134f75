-- The events known at the start.
use Rattle.std.specs.Prelude.{◌≡◌, ℕ, ℤ, ◌<◌, ◌≤◌, ◌==◌, ◌&&◌, Bool, true, false, List, [], ◌∷◌, None, drop}
use Rattle.std.specs.declared.cmp.Ordering.{Ordering}
use Rattle.std.specs.Ordering.{nat_cmp, ordering_then}
use Rattle.pt_tags.specs.declared.tag.Tag.{Tag}
use Rattle.pt_semantics.specs.Lists.{Each}
use Rattle.pt_semantics.specs.Meaning.{Values, added, at_time}
use Rattle.pt_meaning.specs.declared.place.EventPlace.{EventPlace}
use Rattle.pt_meaning.specs.declared.early.EarlyMoment.{EarlyMoment}
use Rattle.pt_meaning.specs.declared.early.Early.{Early}
use Rattle.pt_meaning.specs.declared.early.EarlyList.{EarlyList}
use Rattle.pt_meaning.specs.Opening.{start_event}
use Rattle.pt_meaning.specs.Waiting.{rank_in}

-- when an event fires
abbrev pub event_moment : Early → EarlyMoment
event_moment e = e.moment

-- the order of moments: by time, rank and actor
abbrev pub event_moment_cmp : EarlyMoment → EarlyMoment → Ordering
event_moment_cmp x y = ordering_then (nat_cmp x.time y.time) (ordering_then (nat_cmp x.rank y.rank) (nat_cmp x.actor y.actor))

-- the value that waits at each input and tag; if several events are at one, the first
abbrev pub early_waits : List Early → Values
early_waits [] a p t = None
early_waits (e ∷ events) a p t = added (start_event e.moment.actor e.moment.time e.value) (early_waits events) a p t

-- the events not taken yet
abbrev pub left : EarlyList → List Early
left list = drop list.next list.events.items

-- the place of a starting event: step 0 of its time, and input 0 of its actor
abbrev pub place_of_early : Early → EventPlace
place_of_early e = record { tag = at_time e.moment.time; rank = e.moment.rank; actor = e.moment.actor; port = 0 }

-- an event has its actor's rank, and its actor is one of that many
pub record IsEarly (rank : ℕ → ℕ) (actors : ℕ) (e : Early) : Type 0 where
  pub rank_is : e.moment.rank ≡ rank e.moment.actor
  pub actor : e.moment.actor < actors

-- each event has its actor's rank and one of that many actors
abbrev pub AreEarly : (ℕ → ℕ) → ℕ → List Early → Type 0
AreEarly rank actors events = Each (IsEarly rank actors) events

-- e does not come after f
abbrev pub NotLater : Early → Early → Type 0
NotLater e f = (e.moment.time ≤ f.moment.time) × (f.moment.time ≤ e.moment.time → (e.moment.rank ≤ f.moment.rank) × (f.moment.rank ≤ e.moment.rank → e.moment.actor ≤ f.moment.actor))

-- events in the order in which they fire
abbrev pub EventsRise : List Early → Type 0
EventsRise [] = Unit {0}
EventsRise (e ∷ events) = Each (NotLater e) events × EventsRise events

-- the events are such, and in the order in which they fire
pub record IsFiringOrder (rank : ℕ → ℕ) (actors : ℕ) (events : List Early) : Type 0 where
  pub placed : AreEarly rank actors events
  pub rising : EventsRise events

-- an event is of this tag and actor
abbrev pub is_event_at : Tag → ℕ → Early → Bool
is_event_at t a e = e.moment.actor == a && e.moment.time == t.time && t.step == 0

-- the first of the old events is of this tag and actor and has this value, and the new events are the rest
pub record Heads (t : Tag) (a : ℕ) (value : ℤ) (old new : List Early) : Type 0 where
  pub event : Early
  pub is : old ≡ event ∷ new
  pub at : is_event_at t a event ≡ true
  pub value_is : event.value ≡ value

-- the first event, if there is one, isn't of this tag and actor
abbrev pub NotAtHead : Tag → ℕ → List Early → Type 0
NotAtHead t a [] = Unit {0}
NotAtHead t a (e ∷ events) = is_event_at t a e ≡ false

-- if the actor is one of so many, and each event has its actor's rank and one of these, this still holds
abbrev pub StayEarly : List ℕ → ℕ → List Early → List Early → Type 0
StayEarly ranks actor old new = (actors : ℕ) → actor < actors → AreEarly (rank_in ranks) actors old → AreEarly (rank_in ranks) actors new
