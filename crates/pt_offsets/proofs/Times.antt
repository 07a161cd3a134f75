-- The times of one actor.
use Rattle.std.proofs.Common.{◌≡◌, ℕ, ℤ, pos, neg_ℤ, ◌^◌, ◌<◌, ◌≤◌, ◌≤ℤ◌, ◌+◌, List, [], ◌∷◌, ◌++◌, length, get_or, Option, Some, None, refl, sym, subst, ◌∙◌, arith, ⊎_elim}
use Rattle.std.proofs.lemmas.Bool.{cases_lt}
use Rattle.std.proofs.lemmas.List.{get_or_append_left, get_or_past, get_or_push}
use Rattle.pt_tags.specs.declared.tag.Delay.{Delay}
use Rattle.pt_types.specs.declared.graph.Graph.{Graph}
use Rattle.pt_types.specs.declared.graph.Unit.{Unit}
use Rattle.pt_types.specs.Lawful.{IsLawful}
use Rattle.pt_types.specs.declared.kind.Kind.{Kind}
use Rattle.pt_types.specs.declared.kind.Kind.TheVariants.{Send}
use Rattle.pt_semantics.specs.Bounds.{bound_of}
use Rattle.pt_types.specs.Lookups.{kind_of}
use Rattle.pt_semantics.specs.Offsets.{HasOffset, IsOffset}
use Rattle.pt_semantics.specs.Units.{groups}
use Rattle.pt_causality.specs.Delays.{AreLeast, AreSmall, IsUnit}
use Rattle.pt_offsets.specs.Bounded.{AreBounds, AreModest, offset_from}
use Rattle.pt_offsets.specs.Greatest.{HasGreatest, IsGreatest}
use Rattle.pt_offsets.specs.Margins.{HasActorOffset, IsActorOffset, margin_of, unit_at}
use Rattle.pt_offsets.specs.declared.table.Timing.{Timing}
use Rattle.pt_offsets.specs.Timings.{AreTimings, IsTiming, no_timing, timing_at}
use Rattle.pt_offsets.proofs.Small.{none_past}
use Rattle.pt_semantics.proofs.Lookups.{none_some}
use Rattle.pt_offsets.proofs.Maxima.{last_or_before, le_trans}
use Rattle.pt_offsets.proofs.Sources.{has_offset, no_offset, small_offset}

-- the offsets of an actor's units, by group
pub record AreUnitOffsets (g : Graph) (bounds : List (Option ℕ)) (least : Unit → Unit → Option Delay) (a : ℕ) (offsets : List (Option ℤ)) : Type 0 where
  pub len : length offsets ≡ groups (kind_of g a)
  pub each : (k : ℕ) → k < groups (kind_of g a) → HasGreatest (length bounds) (offset_from bounds least (unit_at a k)) (get_or offsets k None)

-- an offset is at most what is known to be the offset
at_most : (g : Graph) (u : Unit) (x : ℤ) (o : Option ℤ) → IsOffset g u x → HasOffset g u o → (y : ℤ) × (o ≡ Some y) × (x ≤ℤ y)
at_most g u x None is has = absurd (has is.some.0 is.some.1 is.some.2 is.some.3)
at_most g u x (Some y) is has = (y, refl, subst (λ (z : ℤ). z ≤ℤ y) is.some.4 (has.greatest is.some.0 is.some.1 is.some.2 is.some.3))

module _ (g : Graph) (bounds : List (Option ℕ)) (least : Unit → Unit → Option Delay) (a : ℕ) (offsets : List (Option ℤ)) (lawful : IsLawful g) (are : AreBounds g bounds) (all : AreLeast g least) (less : a < length g.actors) (units : AreUnitOffsets g bounds least a offsets) where
  -- each of them, and none past the end
  pub each_offset : (k : ℕ) → HasOffset g (unit_at a k) (get_or offsets k None)
  each_offset k =
      let len : length offsets ≡ groups (kind_of g a) = units.len in
      ⊎_elim
      (λ (there : k < groups (kind_of g a)). has_offset g bounds least (unit_at a k) lawful are all (less, there) (get_or offsets k None) (units.each k there))
      (λ (past : groups (kind_of g a) ≤ k).
      subst (HasOffset g (unit_at a k)) (sym (get_or_past offsets k None (omega arith)))
      (no_offset g (unit_at a k) lawful (λ (unit : IsUnit g (unit_at a k)). let below : k < groups (kind_of g a) = unit.1 in omega arith)))
      (cases_lt k (groups (kind_of g a)))

  absent : ((k : ℕ) → k < length offsets → get_or offsets k None ≡ None) → HasActorOffset g a None
  absent none k =
      subst (HasOffset g (unit_at a k))
      (⊎_elim (λ (there : k < length offsets). none k there) (λ (past : length offsets ≤ k). get_or_past offsets k None past) (cases_lt k (length offsets)))
      (each_offset k)

  -- no unit's offset is greater
  no_greater : (o : ℤ) (k : ℕ) (x : ℤ) → IsGreatest (length offsets) (λ k. get_or offsets k None) o → IsOffset g (unit_at a k) x → x ≤ℤ o
  no_greater o k x has is =
      let one = at_most g (unit_at a k) x (get_or offsets k None) is (each_offset k) in
      ⊎_elim
      (λ (there : k < length offsets). le_trans x one.0 o one.2 (has.greatest k one.0 there one.1))
      (λ (past : length offsets ≤ k). absurd (none_some one.0 (sym (get_or_past offsets k None past) ∙ one.1)))
      (cases_lt k (length offsets))

  present : (o : ℤ) → IsGreatest (length offsets) (λ k. get_or offsets k None) o → IsActorOffset g a o
  present o has = record {
    group = has.at;
    there = subst (HasOffset g (unit_at a has.at)) has.there (each_offset has.at);
    greatest = λ k x is. no_greater o k x has is;
  }

  pub actor_offset : (o : Option ℤ) → HasGreatest (length offsets) (λ k. get_or offsets k None) o → HasActorOffset g a o
  actor_offset None has = absent has
  actor_offset (Some o) has = present o has

pub small_actor : (g : Graph) (bounds : List (Option ℕ)) (least : Unit → Unit → Option Delay) (a : ℕ) (offsets : List (Option ℤ)) (found : Option ℤ) (o : ℤ) → AreModest bounds → AreSmall least → AreUnitOffsets g bounds least a offsets → HasGreatest (length offsets) (λ k. get_or offsets k None) found → found ≡ Some o → (neg_ℤ (pos (2 ^ 62)) ≤ℤ o) × (o ≤ℤ pos (2 ^ 62))
small_actor g bounds least a offsets found o modest small units has is =
    let one : IsGreatest (length offsets) (λ k. get_or offsets k None) o = subst (HasGreatest (length offsets) (λ k. get_or offsets k None)) is has in
    let len : length offsets ≡ groups (kind_of g a) = units.len in
    let below : one.at < length offsets = one.below in
    small_offset bounds least (unit_at a one.at) o modest small
    (subst (HasGreatest (length bounds) (offset_from bounds least (unit_at a one.at))) one.there (units.each one.at (omega arith)))

no_margin : (k : Kind) → None ≡ margin_of k None
no_margin (Send slack) = refl
no_margin (Kind.Actuator slack) = refl
no_margin _ = refl

-- an actor past the end has no times
past_timing : (g : Graph) (a : ℕ) → IsLawful g → length g.actors ≤ a → IsTiming g a no_timing
past_timing g a lawful past =
    let none : (k : ℕ) → HasOffset g (unit_at a k) None = λ k. no_offset g (unit_at a k) lawful (λ (unit : IsUnit g (unit_at a k)). let below : a < length g.actors = unit.0 in omega arith) in
    record {
      bound = sym (none_past g a (bound_of g a) lawful past refl);
      units = λ k unit. let below : a < length g.actors = unit.0 in absurd (omega (arith, below, past));
      offsets = none;
      offset = none;
      margin = no_margin (kind_of g a);
    }

-- the times of as many actors as the graph has are those of all
pub are_timings : (g : Graph) (timings : List Timing) → IsLawful g → length timings ≡ length g.actors → ((a : ℕ) → a < length g.actors → IsTiming g a (timing_at timings a)) → AreTimings g timings
are_timings g timings lawful len each a =
    ⊎_elim
    (λ (less : a < length g.actors). each a less)
    (λ (past : length g.actors ≤ a). subst (IsTiming g a) (sym (get_or_past timings a no_timing (omega arith))) (past_timing g a lawful past))
    (cases_lt a (length g.actors))

-- one more than were there before
pub timing_more : (g : Graph) (timings : List Timing) (t : Timing) (n : ℕ) → length timings ≡ n → ((a : ℕ) → a < n → IsTiming g a (timing_at timings a)) → IsTiming g n t → (a : ℕ) → a < n + 1 → IsTiming g a (timing_at (timings ++ t ∷ []) a)
timing_more g timings t n len each is a h =
    ⊎_elim
    (λ (less : a < n). subst (IsTiming g a) (sym (get_or_append_left timings (t ∷ []) no_timing a (omega arith))) (each a less))
    (λ (here : a ≡ n). subst (IsTiming g a) (sym (get_or_push timings t no_timing a (len ∙ sym here))) (subst (λ m. IsTiming g m t) (sym here) is))
    (last_or_before n a h)
