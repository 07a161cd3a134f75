-- The first events of those that wait by place.
use Rattle.std.specs.Prelude.{◌≡◌, ℕ, Option, Some, None, IsSome, ◌==◌, ◌&&◌, false, Bool, cond, ℤ, ◌⊎◌}
use Rattle.std.specs.Ordering.{is_eq, is_gt}
use Rattle.pt_tags.specs.declared.tag.Tag.{Tag}
use Rattle.pt_tags.specs.Tags.{same_tag}
use Rattle.pt_types.specs.Ports.{when}
use Rattle.pt_semantics.specs.Lists.{or_else}
use Rattle.pt_meaning.specs.declared.place.EventPlace.{EventPlace}
use Rattle.pt_meaning.specs.Waiting.{place_cmp}

-- this value is at the place now, and elsewhere what was there
abbrev pub Replaces : EventPlace → ℤ → (EventPlace → Option ℤ) → (EventPlace → Option ℤ) → Type 0
Replaces place value old new = (q : EventPlace) → new q ≡ cond (is_eq (place_cmp place q)) (Some value) (old q)

-- all that was there is there, and this event too, unless there was one at its place
abbrev pub Enters : EventPlace → ℤ → (EventPlace → Option ℤ) → (EventPlace → Option ℤ) → Type 0
Enters place value old new = (q : EventPlace) → new q ≡ or_else (old q) (when (is_eq (place_cmp place q)) (Some value))

-- an event of this tag and actor, with this input and value, was there; now all but this one is
pub record TakesOne (t : Tag) (actor port : ℕ) (value : ℤ) (old new : EventPlace → Option ℤ) : Type 0 where
  pub place : EventPlace
  pub tag : place.tag ≡ t
  pub actor_is : place.actor ≡ actor
  pub port_is : place.port ≡ port
  pub was : old place ≡ Some value
  pub others : (q : EventPlace) → new q ≡ cond (is_eq (place_cmp place q)) None (old q)

-- a place is of this tag and actor
abbrev pub is_place_of : Tag → ℕ → EventPlace → Bool
is_place_of t actor x = x.actor == actor && same_tag t x.tag

-- an event is at the place, and none is before it
pub record IsLeastPlace (held : EventPlace → Option ℤ) (place : EventPlace) : Type 0 where
  pub there : IsSome (held place)
  pub least : (q : EventPlace) → IsSome (held q) → is_gt (place_cmp place q) ≡ false

-- there is no event, or the first one isn't of this tag and actor
abbrev pub NoneInFront : Tag → ℕ → (EventPlace → Option ℤ) → Type 0
NoneInFront t actor held = ((q : EventPlace) → held q ≡ None) ⊎ ((first : EventPlace) × IsLeastPlace held first × (is_place_of t actor first ≡ false))
