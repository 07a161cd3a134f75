-- Senders that can send in time make a graph feasible.
use Rattle.std.proofs.Common.{◌≡◌, length, ℕ, ℤ, pos, ◌+◌, ◌<◌, ◌≤◌, ◌≤ℤ◌, ◌+ℤ◌, ◌-ℤ◌, List, Option, Some, None, refl, sym, ap, subst, ◌∙◌, arith}
use Rattle.std.proofs.lemmas.Int.{ints}
use Rattle.pt_types.specs.declared.graph.Graph.{Graph}
use Rattle.pt_types.specs.declared.graph.Unit.{Unit}
use Rattle.pt_types.specs.declared.kind.Kind.{Kind}
use Rattle.pt_types.specs.declared.kind.Kind.TheVariants.{Receive, Send}
use Rattle.pt_types.specs.Lawful.{IsLawful}
use Rattle.pt_semantics.specs.Bounds.{Feeds}
use Rattle.pt_semantics.specs.Edges.{Edge}
use Rattle.pt_types.specs.Lookups.{kind_of}
use Rattle.pt_semantics.specs.Offsets.{HasOffset, IsFeasible}
use Rattle.pt_semantics.specs.Ranks.{sum_along}
use Rattle.pt_semantics.specs.Units.{at_output, groups}
use Rattle.pt_offsets.specs.declared.fault.OffsetFault.{OffsetFault}
use Rattle.pt_offsets.specs.declared.fault.OffsetFault.TheVariants.{Infeasible, Memory}
use Rattle.pt_offsets.specs.Faults.{CauseOfOffset, Names}
use Rattle.pt_offsets.specs.Margins.{HasActorOffset, IsActorOffset, IsInfeasible, SendsInTime, unit_at}
use Rattle.pt_offsets.specs.Timings.{CanSendInTime, SendsLate}
use Rattle.pt_offsets.proofs.Small.{past_kind}
use Rattle.pt_offsets.proofs.Sources.{first_unit, offset_is_unit}

in_time_along : (b t slack : ℕ) (o : ℤ) → (pos b -ℤ pos t) ≤ℤ o → (o +ℤ pos 1) ≤ℤ pos slack → b + 1 ≤ slack + t
in_time_along b t slack o h k = omega (arith, ints)

feasible_by : (g : Graph) (a slack s b : ℕ) (path : List Edge) (o : Option ℤ) → HasOffset g (at_output g a 0) o → SendsInTime g a → kind_of g a ≡ Send slack → Feeds g s b path (at_output g a 0) → b + 1 ≤ slack + (sum_along path).time
feasible_by g a slack s b path None has sends kind feeds = absurd (has s b path feeds)
feasible_by g a slack s b path (Some o) has sends kind feeds = in_time_along b (sum_along path).time slack o (has.greatest s b path feeds) (sends slack o kind has)

-- where each sender can send in time, whatever reaches it
pub feasible : (g : Graph) (offset : Unit → Option ℤ) → ((u : Unit) → HasOffset g u (offset u)) → ((a : ℕ) → SendsInTime g a) → IsFeasible g
feasible g offset has sends a slack s b path kind feeds = feasible_by g a slack s b path (offset (at_output g a 0)) (has (at_output g a 0)) (sends a) kind feeds

less_in_time : (x y : ℤ) (slack : ℕ) → x ≤ℤ y → (y +ℤ pos 1) ≤ℤ pos slack → (x +ℤ pos 1) ≤ℤ pos slack
less_in_time x y slack h k = omega (arith, ints)

-- an actor that was found in time is
pub sends_in_time : (g : Graph) (a : ℕ) (k : Kind) (found : Option ℤ) → k ≡ kind_of g a → HasActorOffset g a found → CanSendInTime k found → SendsInTime g a
sends_in_time g a k None same has timely slack o kind is = absurd (has 0 is.some.0 is.some.1 is.some.2 (subst (Feeds g is.some.0 is.some.1 is.some.2) (sym (first_unit g a)) is.some.3))
sends_in_time g a k (Some y) same has timely slack o kind is =
    less_in_time o y slack (has.greatest 0 o (subst (λ (u : Unit). HasOffset g u (Some o)) (sym (first_unit g a)) is)) (timely slack y (same ∙ kind) refl)

-- the offset of a sender is that of its one unit
one_unit : (g : Graph) (a slack k : ℕ) (o : ℤ) → IsLawful g → kind_of g a ≡ Send slack → HasOffset g (unit_at a k) (Some o) → HasOffset g (at_output g a 0) (Some o)
one_unit g a slack k o lawful kind is =
    let below : k < groups (kind_of g a) = (offset_is_unit g (unit_at a k) o lawful is).1 in
    let one : groups (kind_of g a) ≡ 1 = ap groups kind in
    let first : k ≡ 0 = omega arith in
    subst (λ (u : Unit). HasOffset g u (Some o)) (ap (unit_at a) first ∙ first_unit g a) is

-- an actor that was found late is infeasible
pub names : (g : Graph) (a : ℕ) (k : Kind) (found : Option ℤ) (fault : OffsetFault) → IsLawful g → k ≡ kind_of g a → HasActorOffset g a found → SendsLate a k found fault → Names fault g a
names g a k found Memory lawful same has late = late
names g a k found (Infeasible send o slack) lawful same has late =
    let kind : kind_of g a ≡ Send slack = sym same ∙ late.1 in
    let is : IsActorOffset g a o = subst (HasActorOffset g a) late.2 has in
    (late.0, record { sends = kind; offset_is = one_unit g a slack is.group o lawful kind is.there; late = late.3 })

-- an actor that a fault names is the first one, where each before it can send in time
pub is_first : (g : Graph) (a : ℕ) (fault : OffsetFault) → ((b : ℕ) → b < a → SendsInTime g b) → Names fault g a → CauseOfOffset fault g
is_first g a Memory before named = tt
is_first g a (Infeasible send o slack) before named =
    record {
      infeasible = subst (λ n. IsInfeasible g n o slack) (sym named.0) named.1;
      first = λ b less. before b (subst (λ n. b < n) named.0 less);
    }

-- what is past the end sends nothing
pub none_sends : (g : Graph) (a : ℕ) → length g.actors ≤ a → SendsInTime g a
none_sends g a past slack o kind has = absurd (not_send slack (sym (past_kind g a past) ∙ kind))
  where
    not_send : (slack : ℕ) → Receive ≡ Send slack → ⊥
    not_send slack e = cc
