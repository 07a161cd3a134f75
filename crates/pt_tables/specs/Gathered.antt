-- The table of each actor, as a text of its own.
use Rattle.std.specs.Prelude.{◌≡◌, ℕ, ℤ, suc, Bool, true, false, List, [], ◌∷◌, slice_index_or}
use Rattle.pt_tags.specs.declared.tag.Tag.{Tag}
use Rattle.pt_types.specs.Ports.{at_port}
use Rattle.pt_types.specs.declared.graph.Actor.{Actor}
use Rattle.pt_types.specs.declared.firing.ActorFiring.{ActorFiring}
use Rattle.pt_types.specs.declared.kind.Kind.{Kind}
use Rattle.pt_types.specs.declared.kind.Kind.TheVariants.{Actuator}
use Rattle.pt_types.specs.Groups.{no_actor}
use Rattle.pt_semantics.specs.Firing.{or_zero}
use Rattle.pt_semantics.specs.Tables.{table_of}

-- the table of each of these actors, which are numbered from a on
abbrev pub texts_from : ℕ → List Actor → List ActorFiring → List (List ℕ)
texts_from a [] xs = []
texts_from a (actor ∷ actors) xs = table_of a actor.name actor.kind xs ∷ texts_from (suc a) actors xs

-- a kind whose firings are lines of a table: an actuator
abbrev pub is_actuator : Kind → Bool
is_actuator (Actuator slack) = true
is_actuator _ = false

-- actor a is an actuator
abbrev pub has_table : List Actor → ℕ → Bool
has_table actors a = is_actuator (slice_index_or actors a no_actor).kind

-- a firing of this actor at this tag, with this value at input 0 (or 0 if there is none)
pub record HasLine (actor : ℕ) (tag : Tag) (value : ℤ) (x : ActorFiring) : Type 0 where
  pub by : x.actor ≡ actor
  pub at : x.tag ≡ tag
  pub with_value : or_zero (at_port x.inputs 0) ≡ value
