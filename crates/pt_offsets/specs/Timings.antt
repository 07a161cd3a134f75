-- The bounds, offsets and margins of actors as lists.
pub use Rattle.pt_offsets.specs.Entries.{no_timing, timing_at}
use Rattle.std.specs.Prelude.{◌≡◌, ◌<◌, ◌<ℤ◌, ◌≤ℤ◌, ◌+ℤ◌, ℕ, ℤ, pos, List, None, Option, Some, length, slice_index_or}
use Rattle.pt_types.specs.declared.graph.Graph.{Graph}
use Rattle.pt_types.specs.declared.graph.Unit.{Unit}
use Rattle.pt_types.specs.declared.kind.Kind.{Kind}
use Rattle.pt_types.specs.declared.kind.Kind.TheVariants.{Send}
use Rattle.pt_semantics.specs.Bounds.{bound_of}
use Rattle.pt_types.specs.Lookups.{kind_of}
use Rattle.pt_semantics.specs.Offsets.{HasOffset}
use Rattle.pt_causality.specs.Units.{IsUnit}
use Rattle.pt_offsets.specs.declared.fault.OffsetFault.{OffsetFault}
use Rattle.pt_offsets.specs.declared.fault.OffsetFault.TheVariants.{Infeasible, Memory}
use Rattle.pt_offsets.specs.declared.table.Offsets.{Offsets}
use Rattle.pt_offsets.specs.declared.table.Timing.{Timing}
use Rattle.pt_offsets.specs.Margins.{HasActorOffset, margin_of, unit_at}

-- the offset of a unit, and the greatest offset of an actor's units
unfoldable pub offset_of : Offsets → Unit → Option ℤ
offset_of o u = slice_index_or (timing_at o.actors.items u.actor).offsets u.group None

unfoldable pub actor_offset_of : Offsets → ℕ → Option ℤ
actor_offset_of o a = (timing_at o.actors.items a).offset

-- the least offset in a word of units, those of eight actors in a row; none if one of them has no offset, or past the end
unfoldable pub least_offset_in : Offsets → ℕ → Option ℤ
least_offset_in o word = slice_index_or o.words.items word None

-- the bound and the margin of an actor
unfoldable pub bound_in : Offsets → ℕ → Option ℕ
bound_in o a = (timing_at o.actors.items a).bound

unfoldable pub margin_in : Offsets → ℕ → Option ℤ
margin_in o a = (timing_at o.actors.items a).margin

-- this is the entry of actor a
pub record IsTiming (g : Graph) (a : ℕ) (t : Timing) : Type 0 where
  pub bound : t.bound ≡ bound_of g a
  pub units : (group : ℕ) → IsUnit g (unit_at a group) → group < length t.offsets
  pub offsets : (group : ℕ) → HasOffset g (unit_at a group) (slice_index_or t.offsets group None)
  pub offset : HasActorOffset g a t.offset
  pub margin : t.margin ≡ margin_of (kind_of g a) t.offset

-- these are the entries of all actors
abbrev pub AreTimings : Graph → List Timing → Type 0
AreTimings g timings = (a : ℕ) → IsTiming g a (timing_at timings a)

-- if the kind is a sender and there is an offset, it can send in time
abbrev pub CanSendInTime : Kind → Option ℤ → Type 0
CanSendInTime kind offset = (slack : ℕ) (o : ℤ) → kind ≡ Send slack → offset ≡ Some o → (o +ℤ pos 1) ≤ℤ pos slack

-- it is a sender that can't send in time, and the fault names it
abbrev pub SendsLate : ℕ → Kind → Option ℤ → OffsetFault → Type 0
SendsLate a kind offset Memory = ⊥
SendsLate a kind offset (Infeasible send o slack) = (send ≡ a) × (kind ≡ Send slack) × (offset ≡ Some o) × (pos slack <ℤ (o +ℤ pos 1))
