-- What is promised of events that wait, each at its place, if they are placed for some ranks: `held` is the value at a place.
use Rattle.std.specs.Prelude.{◌≡◌, ℕ, ℤ, List, None, Option, true}
use Rattle.pt_tags.specs.declared.tag.Tag.{Tag}
use Rattle.pt_types.specs.Ports.{at_port, eight}
use Rattle.pt_semantics.specs.Firing.{any_present}
use Rattle.pt_semantics.specs.Lists.{or_else}
use Rattle.pt_semantics.specs.Meaning.{IsFirst, waiting, without}
use Rattle.pt_meaning.specs.declared.place.EventPlace.{EventPlace}
use Rattle.pt_meaning.specs.Waiting.{EventsArePlaced, IsPlaceIn, waits_in}

-- the actor and tag of this place fire first
abbrev pub FiresFirst : (EventPlace → Option ℤ) → EventPlace → Type 0
FiresFirst held next = (rank : ℕ → ℕ) (actors steps : ℕ) → EventsArePlaced rank actors steps held → IsFirst rank (waits_in rank held) next.actor next.tag

-- an event waits for the actor at the tag of this place
abbrev pub HasInput : (EventPlace → Option ℤ) → EventPlace → Type 0
HasInput held next = (rank : ℕ → ℕ) (actors steps : ℕ) → EventsArePlaced rank actors steps held → any_present (waiting (waits_in rank held) next.actor next.tag) ≡ true

-- this place is one that an event can have
abbrev pub IsPlaced : (EventPlace → Option ℤ) → EventPlace → Type 0
IsPlaced held next = (rank : ℕ → ℕ) (actors steps : ℕ) → EventsArePlaced rank actors steps held → IsPlaceIn rank actors steps next

-- no event waits
abbrev pub NoneWaits : (EventPlace → Option ℤ) → Type 0
NoneWaits held = (rank : ℕ → ℕ) (a p : ℕ) (t : Tag) → waits_in rank held a p t ≡ None

-- these are the inputs of the actor at the tag
abbrev pub GivesInputs : (EventPlace → Option ℤ) → ℕ → Tag → List (Option ℤ) → Type 0
GivesInputs held actor tag inputs = (rank : ℕ → ℕ) (actors steps : ℕ) → EventsArePlaced rank actors steps held → inputs ≡ waiting (waits_in rank held) actor tag

-- the same, if the actor fires first at the tag
abbrev pub GivesFirstInputs : (EventPlace → Option ℤ) → ℕ → Tag → List (Option ℤ) → Type 0
GivesFirstInputs held actor tag inputs = (rank : ℕ → ℕ) (actors steps : ℕ) → EventsArePlaced rank actors steps held → IsFirst rank (waits_in rank held) actor tag → inputs ≡ waiting (waits_in rank held) actor tag

-- if the actor fires first at the tag, its inputs were put over those that were there
abbrev pub PutsFirstInputs : (EventPlace → Option ℤ) → ℕ → Tag → List (Option ℤ) → List (Option ℤ) → Type 0
PutsFirstInputs held actor tag old new = (rank : ℕ → ℕ) (actors steps : ℕ) → EventsArePlaced rank actors steps held → IsFirst rank (waits_in rank held) actor tag → new ≡ eight (λ p. or_else (waits_in rank held actor p tag) (at_port old p))

-- the events of the actor at the tag wait no longer
abbrev pub Takes : ℕ → Tag → (EventPlace → Option ℤ) → (EventPlace → Option ℤ) → Type 0
Takes actor tag old new = (rank : ℕ → ℕ) (actors steps : ℕ) → EventsArePlaced rank actors steps old → waits_in rank new ≡ without (waits_in rank old) actor tag

-- the same, if the actor fires first at the tag
abbrev pub TakesFirst : ℕ → Tag → (EventPlace → Option ℤ) → (EventPlace → Option ℤ) → Type 0
TakesFirst actor tag old new = (rank : ℕ → ℕ) (actors steps : ℕ) → EventsArePlaced rank actors steps old → IsFirst rank (waits_in rank old) actor tag → waits_in rank new ≡ without (waits_in rank old) actor tag

-- events that were placed are placed still
abbrev pub StayPlaced : (EventPlace → Option ℤ) → (EventPlace → Option ℤ) → Type 0
StayPlaced old new = (rank : ℕ → ℕ) (actors steps : ℕ) → EventsArePlaced rank actors steps old → EventsArePlaced rank actors steps new
