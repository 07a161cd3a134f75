-- The events of the tag that runs, by the position of their actor in the order in which actors fire.
use Rattle.std.specs.Prelude.{◌≡◌, ℕ, ◌<◌, ◌≤◌, ◌==◌, ◌&&◌, Bool, true, List, Option, ℤ, length, slice_index_or}
use Rattle.std.specs.declared.cmp.Ordering.{Ordering}
use Rattle.std.specs.Ordering.{nat_cmp, ordering_then}
use Rattle.pt_tags.specs.declared.tag.Tag.{Tag}
use Rattle.pt_tags.specs.Tags.{same_tag}
use Rattle.pt_types.specs.Ports.{when, at_port}
use Rattle.pt_semantics.specs.Firing.{any_present}
use Rattle.pt_meaning.specs.declared.place.EventPlace.{EventPlace}
use Rattle.pt_meaning.specs.declared.order.Standing.{Standing}
use Rattle.pt_meaning.specs.Ready.{ports_at}

abbrev pub own_standing : Standing → Standing
own_standing s = s

-- the order in which actors of one tag fire: by rank, then actor
abbrev pub standing_cmp : Standing → Standing → Ordering
standing_cmp x y = ordering_then (nat_cmp x.rank y.rank) (nat_cmp x.actor y.actor)

-- the actor at a position
abbrev pub standing_at : List Standing → ℕ → Standing
standing_at order n = slice_index_or order n (record { rank = 0; actor = 0 })

-- x does not come after y
abbrev pub StandsUpTo : Standing → Standing → Type 0
StandsUpTo x y = (x.rank ≤ y.rank) × (y.rank ≤ x.rank → x.actor ≤ y.actor)

-- each actor does not come after those behind it
abbrev pub StandingsRise : List Standing → Type 0
StandingsRise order = (i j : ℕ) → i ≤ j → j < length order → StandsUpTo (standing_at order i) (standing_at order j)

-- this is the actor of a place
abbrev pub is_standing_of : EventPlace → Standing → Bool
is_standing_of q s = s.rank == q.rank && s.actor == q.actor

-- the position of an actor; the number of positions if it has none
abbrev pub position_at : List Standing → List ℕ → ℕ → ℕ
position_at order positions actor = slice_index_or positions actor (length order)

-- the value at a place: that at the position of its actor, if the tag is that of the place
abbrev pub slate_value : Tag → List Standing → List ℕ → List (List (Option ℤ)) → EventPlace → Option ℤ
slate_value tag order positions inputs q =
    when (same_tag tag q.tag && is_standing_of q (standing_at order (position_at order positions q.actor))) (at_port (ports_at inputs (position_at order positions q.actor)) q.port)

-- a tag, the actors in the order in which they fire, the position of each actor, and the values at the inputs of each position
pub record Slate : Type 0 where
  pub tag : Tag
  pub order : List Standing
  pub positions : List ℕ
  pub inputs : List (List (Option ℤ))

-- the value at a place of the events of a tag
abbrev pub current_value : Slate → EventPlace → Option ℤ
current_value s = slate_value s.tag s.order s.positions s.inputs

-- actors in the order in which they fire, each with its inputs; where there are values, the position is that of its actor
pub record IsCurrent (order : List Standing) (positions : List ℕ) (inputs : List (List (Option ℤ))) : Type 0 where
  pub rising : StandingsRise order
  pub same : length inputs ≡ length order
  pub placed : (n : ℕ) → any_present (ports_at inputs n) ≡ true → position_at order positions (standing_at order n).actor ≡ n

-- position k is that of an actor, and its events of this tag are there
pub record IsPositionOf (s : Slate) (t : Tag) (actor k : ℕ) : Type 0 where
  pub tag_is : s.tag ≡ t
  pub at : position_at s.order s.positions actor ≡ k
  pub actor_is : (standing_at s.order k).actor ≡ actor
  pub there : k < length s.inputs
