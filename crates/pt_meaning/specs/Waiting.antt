-- Events that wait, by place, seen as the value that waits at each input and tag.
use Rattle.std.specs.Prelude.{◌≡◌, ℕ, ◌<◌, ◌≤◌, List, Option, slice_index_or, ◌==◌, ◌&&◌, Some, IsSome, ℤ}
use Rattle.std.specs.declared.cmp.Ordering.{Ordering}
use Rattle.std.specs.Ordering.{nat_cmp, ordering_then}
use Rattle.pt_tags.specs.declared.tag.Tag.{Tag}
use Rattle.pt_tags.specs.Tags.{same_tag}
use Rattle.pt_types.specs.Ports.{when}
use Rattle.pt_semantics.specs.Meaning.{Values}
use Rattle.pt_meaning.specs.declared.place.EventPlace.{EventPlace}

-- the order of places: by tag, rank, actor and port
abbrev pub place_cmp : EventPlace → EventPlace → Ordering
place_cmp x y = ordering_then (ordering_then (nat_cmp x.tag.time y.tag.time) (nat_cmp x.tag.step y.tag.step)) (ordering_then (nat_cmp x.rank y.rank) (ordering_then (nat_cmp x.actor y.actor) (nat_cmp x.port y.port)))

-- the place of an actor's input at a tag
abbrev pub place_of : (ℕ → ℕ) → ℕ → ℕ → Tag → EventPlace
place_of rank a p t = record { tag = t; rank = rank a; actor = a; port = p }

-- the value that waits at each input and tag, given each actor's rank
abbrev pub waits_in : (ℕ → ℕ) → (EventPlace → Option ℤ) → Values
waits_in rank held a p t = held (place_of rank a p t)

-- the value of an event at its place, for an actor, an input and a tag
abbrev pub value_at : EventPlace → ℤ → Values
value_at place value a p t = when (place.actor == a && place.port == p && same_tag place.tag t) (Some value)

-- a place has its actor's rank, one of that many actors, one of eight ports, and a step of at most `steps`
pub record IsPlaceIn (rank : ℕ → ℕ) (actors steps : ℕ) (x : EventPlace) : Type 0 where
  pub rank_is : x.rank ≡ rank x.actor
  pub actor : x.actor < actors
  pub port : x.port < 8
  pub step : x.tag.step ≤ steps

-- each event is at such a place
abbrev pub EventsArePlaced : (ℕ → ℕ) → ℕ → ℕ → (EventPlace → Option ℤ) → Type 0
EventsArePlaced rank actors steps held = (x : EventPlace) → IsSome (held x) → IsPlaceIn rank actors steps x

-- the rank of each actor, from a list of ranks
abbrev pub rank_in : List ℕ → ℕ → ℕ
rank_in ranks a = slice_index_or ranks a 0
