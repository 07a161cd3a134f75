-- Two maps of events, of which the earlier one's events count first.
use Rattle.std.proofs.Common.{◌≡◌, ℕ, ◌≤◌, ◌==◌, ◌&&◌, ◌⊎◌, ⊎_elim, inl, inr, not, Bool, true, false, Some, None, Option, ℤ, List, [], ◌∷◌, refl, ap, ◌∙◌, arith}
use Rattle.pt_tags.specs.declared.tag.Tag.{Tag}
use Rattle.pt_tags.specs.Tags.{same_tag}
use Rattle.pt_types.specs.Ports.{when, at_port, eight, only}
use Rattle.pt_semantics.specs.Firing.{any_present}
use Rattle.pt_semantics.specs.Lists.{or_else}
use Rattle.pt_semantics.specs.Meaning.{Values, IsFirst, NotAfter, added, waiting, without}
use Rattle.pt_meaning.specs.declared.place.EventPlace.{EventPlace}
use Rattle.pt_meaning.specs.declared.world.WaitingEvents.{WaitingEvents}
use Rattle.pt_meaning.specs.Both.{with_first, AreSound, IsUpTo}
use Rattle.pt_meaning.specs.Held.{late_value}
use Rattle.pt_meaning.proofs.Places.{sound_more}

-- what is first of all is first of a part
pub first_early : (rank : ℕ → ℕ) (e l : Values) (a : ℕ) (t : Tag) → IsFirst rank (added e l) a t → IsFirst rank e a t
first_early rank e l a t first b p u v is = first b p u v (ap (λ x. or_else x (l b p u)) is)

pub some_late : (x y : Option ℤ) (v : ℤ) → y ≡ Some v → (z : ℤ) × (or_else x y ≡ Some z)
some_late None y v is = (v, is)
some_late (Some x) y v is = (x, refl)

pub first_late : (rank : ℕ → ℕ) (e l : Values) (a : ℕ) (t : Tag) → IsFirst rank (added e l) a t → IsFirst rank l a t
first_late rank e l a t first b p u v is = let there = some_late (e b p u) (l b p u) v is in first b p u there.0 there.1

pub either : (x y : Option ℤ) (v : ℤ) → or_else x y ≡ Some v → (x ≡ Some v) ⊎ (y ≡ Some v)
either None y v is = inr is
either (Some x) y v is = inl is

-- a place up to another one, which is first of some events, is not after these
pub not_after : (rank : ℕ → ℕ) (x y : EventPlace) (b : ℕ) (u : Tag) → x.rank ≡ rank x.actor → y.rank ≡ rank y.actor → IsUpTo x y → NotAfter rank y.tag y.actor u b → NotAfter rank x.tag x.actor u b
not_after rank x y b u ranked ranked_y upto after = by (rank x.actor) (rank y.actor) (rank b) ranked ranked_y after
  where
    by : (r s q : ℕ) → x.rank ≡ r → y.rank ≡ s
        → (y.tag.time ≤ u.time) × (u.time ≤ y.tag.time → (y.tag.step ≤ u.step) × (u.step ≤ y.tag.step → (s ≤ q) × (q ≤ s → y.actor ≤ b)))
        → (x.tag.time ≤ u.time) × (u.time ≤ x.tag.time → (x.tag.step ≤ u.step) × (u.step ≤ x.tag.step → (r ≤ q) × (q ≤ r → x.actor ≤ b)))
    by r s q e f n = (
      omega (arith, upto.0, n.0),
      λ back.
          let up = upto.1 (omega (arith, n.0, back)) in
          let on = n.1 (omega (arith, upto.0, back)) in (
            omega (arith, up.0, on.0),
            λ steps.
                let up2 = up.1 (omega (arith, on.0, steps)) in
                let on2 = on.1 (omega (arith, up.0, steps)) in
                (omega (arith, up2.0, on2.0, e, f), λ ranks. omega (arith, up2.1 (omega (arith, on2.0, ranks, e, f)), on2.1 (omega (arith, up2.0, ranks, e, f)))),
          ),
    )

-- the sooner of two firsts is the first of all
pub first_of_both : (rank : ℕ → ℕ) (e l : Values) (x early late : EventPlace) → x.rank ≡ rank x.actor → early.rank ≡ rank early.actor → late.rank ≡ rank late.actor → IsUpTo x early → IsUpTo x late
    → IsFirst rank e early.actor early.tag → IsFirst rank l late.actor late.tag → IsFirst rank (added e l) x.actor x.tag
first_of_both rank e l x early late ranked ranked_early ranked_late sooner later first_e first_l b p u v is =
    ⊎_elim
    (λ (h : e b p u ≡ Some v). not_after rank x early b u ranked ranked_early sooner (first_e b p u v h))
    (λ (h : l b p u ≡ Some v). not_after rank x late b u ranked ranked_late later (first_l b p u v h))
    (either (e b p u) (l b p u) v is)

-- where nothing waits in the one, all that waits is in the other
pub only_late : (e l : Values) → ((a p : ℕ) (t : Tag) → e a p t ≡ None) → added e l ≡ l
only_late e l none = λ i a p t. ap (λ x. or_else x (l a p t)) (none a p t) i

or_none : (x y : Option ℤ) → y ≡ None → or_else x y ≡ x
or_none None y h = h
or_none (Some v) y h = refl

pub only_early : (e l : Values) → ((a p : ℕ) (t : Tag) → l a p t ≡ None) → added e l ≡ e
only_early e l none = λ i a p t. or_none (e a p t) (l a p t) (none a p t) i

-- pairs of values, of which the first counts
pairs : List (Option ℤ) → List (Option ℤ) → List (Option ℤ)
pairs [] ys = ys
pairs (x ∷ xs) [] = x ∷ xs
pairs (x ∷ xs) (y ∷ ys) = or_else x y ∷ pairs xs ys

any_early : (xs ys : List (Option ℤ)) → any_present xs ≡ true → any_present (pairs xs ys) ≡ true
unfolding pairs
any_early [] ys h = absurd cc
any_early (x ∷ xs) [] h = h
any_early (None ∷ xs) (None ∷ ys) h = any_early xs ys h
any_early (None ∷ xs) (Some y ∷ ys) h = refl
any_early (Some x ∷ xs) (y ∷ ys) h = refl

any_late : (xs ys : List (Option ℤ)) → any_present ys ≡ true → any_present (pairs xs ys) ≡ true
unfolding pairs
any_late [] ys h = h
any_late (x ∷ xs) [] h = absurd cc
any_late (None ∷ xs) (None ∷ ys) h = any_late xs ys h
any_late (None ∷ xs) (Some y ∷ ys) h = refl
any_late (Some x ∷ xs) (y ∷ ys) h = refl

pub present_early : (e l : Values) (a : ℕ) (t : Tag) → any_present (waiting e a t) ≡ true → any_present (waiting (added e l) a t) ≡ true
unfolding pairs
present_early e l a t h = any_early (waiting e a t) (waiting l a t) h

pub present_late : (e l : Values) (a : ℕ) (t : Tag) → any_present (waiting l a t) ≡ true → any_present (waiting (added e l) a t) ≡ true
unfolding pairs
present_late e l a t h = any_late (waiting e a t) (waiting l a t) h

split : (b : Bool) (x y : Option ℤ) → or_else (when b x) (when b y) ≡ when b (or_else x y)
split true x y = refl
split false x y = refl

-- an actor's events of a tag are taken from both
pub without_both : (e l : Values) (a : ℕ) (t : Tag) → added (without e a t) (without l a t) ≡ without (added e l) a t
without_both e l a t = λ i b p u. split (not (b == a && same_tag t u)) (e b p u) (l b p u) i

or_assoc : (x y z : Option ℤ) → or_else x (or_else y z) ≡ or_else (or_else x y) z
or_assoc None y z = refl
or_assoc (Some v) y z = refl

-- what is sent joins the late events
pub added_late : (e l new : Values) → added e (added l new) ≡ added (added e l) new
added_late e l new = λ i a p t. or_assoc (e a p t) (l a p t) (new a p t) i

-- the early value at input 0 and the late values
pub taken_both : (e l : Values) (a : ℕ) (t : Tag) (first : Option ℤ) (late : List (Option ℤ)) → eight (only 0 first) ≡ waiting e a t → late ≡ waiting l a t → with_first first late ≡ waiting (added e l) a t
taken_both e l a t None late early is = is ∙ ap (λ m. eight (λ p. or_else (at_port m p) (l a p t))) early
taken_both e l a t (Some v) late early is = ap (with_first (Some v)) is ∙ ap (λ m. eight (λ p. or_else (at_port m p) (l a p t))) early

pub are_sound_more : (rank : ℕ → ℕ) (actors steps more : ℕ) (w : WaitingEvents) → steps ≤ more → AreSound rank actors steps w → AreSound rank actors more w
are_sound_more rank actors steps more w grows sound = record {
  early = sound.early;
  late = sound_more rank actors steps more (late_value w.late) grows sound.late;
}
