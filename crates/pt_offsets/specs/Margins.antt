-- Offsets and margins of actors, and the first sender that can't send in time.
use Rattle.std.specs.Prelude.{◌≡◌, ◌<◌, ◌+ℤ◌, ◌-ℤ◌, ◌≤ℤ◌, ◌<ℤ◌, ℕ, ℤ, None, Option, Some, pos}
use Rattle.pt_types.specs.declared.graph.Graph.{Graph}
use Rattle.pt_types.specs.declared.graph.Unit.{Unit}
use Rattle.pt_types.specs.declared.kind.Kind.{Kind}
use Rattle.pt_types.specs.declared.kind.Kind.TheVariants.{Send}
use Rattle.pt_types.specs.Lookups.{kind_of}
use Rattle.pt_semantics.specs.Offsets.{HasOffset}
use Rattle.pt_semantics.specs.Units.{at_output}

-- a unit of an actor
abbrev pub unit_at : ℕ → ℕ → Unit
unit_at a group = record { actor = a; group = group }

-- o is the greatest offset of the actor's units
pub record IsActorOffset (g : Graph) (a : ℕ) (o : ℤ) : Type 0 where
  pub group : ℕ
  pub there : HasOffset g (unit_at a group) (Some o)
  pub greatest : (group : ℕ) (x : ℤ) → HasOffset g (unit_at a group) (Some x) → x ≤ℤ o

-- the offset of an actor; none exactly if none of its units has one
abbrev pub HasActorOffset : Graph → ℕ → Option ℤ → Type 0
HasActorOffset g a None = (group : ℕ) → HasOffset g (unit_at a group) None
HasActorOffset g a (Some o) = IsActorOffset g a o

-- the margin of a sender or an actuator: its slack minus its offset and one microsecond; none for other kinds
abbrev pub margin_of : Kind → Option ℤ → Option ℤ
margin_of (Send slack) (Some o) = Some (pos slack -ℤ (o +ℤ pos 1))
margin_of (Kind.Actuator slack) (Some o) = Some (pos slack -ℤ (o +ℤ pos 1))
margin_of _ _ = None

-- the margin of an actor; none if it is neither a sender nor an actuator, or has no offset
abbrev pub HasMargin : Graph → ℕ → Option ℤ → Type 0
HasMargin g a margin = (o : Option ℤ) × HasActorOffset g a o × (margin ≡ margin_of (kind_of g a) o)

-- if the actor is a sender with an offset, the offset plus one microsecond is within its slack
abbrev pub SendsInTime : Graph → ℕ → Type 0
SendsInTime g a = (slack : ℕ) (o : ℤ) → kind_of g a ≡ Send slack → HasOffset g (at_output g a 0) (Some o) → (o +ℤ pos 1) ≤ℤ pos slack

-- a sender with this slack has this offset, and can't send in time
pub record IsInfeasible (g : Graph) (send : ℕ) (offset : ℤ) (slack : ℕ) : Type 0 where
  pub sends : kind_of g send ≡ Send slack
  pub offset_is : HasOffset g (at_output g send 0) (Some offset)
  pub late : pos slack <ℤ (offset +ℤ pos 1)

-- the sender can't send in time, and each sender before it can
pub record IsFirstInfeasible (g : Graph) (send : ℕ) (offset : ℤ) (slack : ℕ) : Type 0 where
  pub infeasible : IsInfeasible g send offset slack
  pub first : (a : ℕ) → a < send → SendsInTime g a
