-- Two parts of the events that wait, of which the first one's count first.
use Rattle.std.proofs.Common.{◌≡◌, ℕ, zero, suc, Bool, true, false, Some, None, Option, IsSome, IfSome, IfNone, MatchOption, ℤ, List, [], ◌∷◌, slice_index_or, refl, sym, ap, subst, ◌∙◌}
use Rattle.pt_tags.specs.declared.tag.Tag.{Tag}
use Rattle.std.specs.Ordering.{is_eq}
use Rattle.pt_types.specs.Ports.{at_port, eight, when}
use Rattle.pt_semantics.specs.Firing.{any_present}
use Rattle.pt_semantics.specs.Lists.{or_else}
use Rattle.pt_semantics.specs.Meaning.{Values, IsFirst, added, waiting}
use Rattle.pt_meaning.specs.declared.place.EventPlace.{EventPlace}
use Rattle.pt_meaning.specs.Waiting.{place_cmp, place_of, waits_in, IsPlaceIn, EventsArePlaced}
use Rattle.pt_meaning.specs.Front.{Enters, IsLeastPlace}
use Rattle.pt_meaning.proofs.Places.{one_place, up_to}
use Rattle.pt_meaning.proofs.Taking.{its_place, at_eight}

-- what is at a place in the one part, or else in the other
abbrev pub either_of : (EventPlace → Option ℤ) → (EventPlace → Option ℤ) → EventPlace → Option ℤ
either_of near far q = or_else (near q) (far q)

pub if_some : (all : EventPlace → Option ℤ) {Q : EventPlace → Type 0} (r : Option EventPlace) → MatchOption r ((q : EventPlace) → all q ≡ None) (IsLeastPlace all) → ((x : EventPlace) → IsLeastPlace all x → Q x) → IfSome r Q
if_some all None h to = tt
if_some all (Some x) h to = to x h

pub if_none : (all : EventPlace → Option ℤ) {Q : Type 0} (r : Option EventPlace) → MatchOption r ((q : EventPlace) → all q ≡ None) (IsLeastPlace all) → (((q : EventPlace) → all q ≡ None) → Q) → IfNone r Q
if_none all None h to = to h
if_none all (Some x) h to = tt

-- the least of sound events is the first
pub least_first : (rank : ℕ → ℕ) (actors steps : ℕ) (all : EventPlace → Option ℤ) (x : EventPlace) → IsLeastPlace all x → EventsArePlaced rank actors steps all → IsFirst rank (waits_in rank all) x.actor x.tag
least_first rank actors steps all x least sound b p u v is =
    let up = up_to x (place_of rank b p u) (least.least (place_of rank b p u) (subst IsSome (sym is) refl)) in
    let here = sound x least.there in
    (up.0, λ t. let after = up.1 t in (after.0, λ s. let later = after.1 s in rw (← here.rank_is) later))

pub any_at : (xs : List (Option ℤ)) (p : ℕ) → IsSome (slice_index_or xs p None) → any_present xs ≡ true
any_at [] p h = absurd cc
any_at (Some v ∷ xs) p h = refl
any_at (None ∷ xs) zero h = absurd cc
any_at (None ∷ xs) (suc p) h = any_at xs p h

-- and is at an input of its actor
pub least_present : (rank : ℕ → ℕ) (actors steps : ℕ) (all : EventPlace → Option ℤ) (x : EventPlace) → IsLeastPlace all x → EventsArePlaced rank actors steps all → any_present (waiting (waits_in rank all) x.actor x.tag) ≡ true
least_present rank actors steps all x least sound =
    let here = sound x least.there in
    let stands : x ≡ place_of rank x.actor x.port x.tag = its_place rank x x.actor x.port x.tag here.rank_is refl refl refl in
    let there : IsSome (waits_in rank all x.actor x.port x.tag) = subst (λ z. IsSome (all z)) stands least.there in
    any_at (waiting (waits_in rank all) x.actor x.tag) x.port
    (subst IsSome (sym (at_eight (λ p. waits_in rank all x.actor p x.tag) x.port here.port)) there)

pub some_near : (x y : Option ℤ) → IsSome x → IsSome (or_else x y)
some_near None y h = absurd cc
some_near (Some v) y h = refl

pub some_far : (x y : Option ℤ) → IsSome y → IsSome (or_else x y)
some_far None y h = h
some_far (Some v) y h = refl

some_of : (P : Type 0) (x y : Option ℤ) → (IsSome x → P) → (IsSome y → P) → IsSome (or_else x y) → P
some_of P None y near far h = far h
some_of P (Some v) y near far h = near refl

module _ (near far : EventPlace → Option ℤ) where
  pub sound_near : (rank : ℕ → ℕ) (actors steps : ℕ) → EventsArePlaced rank actors steps (either_of near far) → EventsArePlaced rank actors steps near
  sound_near rank actors steps sound x h = sound x (some_near (near x) (far x) h)

  pub sound_far : (rank : ℕ → ℕ) (actors steps : ℕ) → EventsArePlaced rank actors steps (either_of near far) → EventsArePlaced rank actors steps far
  sound_far rank actors steps sound x h = sound x (some_far (near x) (far x) h)

  pub sound_both : (rank : ℕ → ℕ) (actors steps : ℕ) → EventsArePlaced rank actors steps near → EventsArePlaced rank actors steps far → EventsArePlaced rank actors steps (either_of near far)
  sound_both rank actors steps n f x h = some_of (IsPlaceIn rank actors steps x) (near x) (far x) (n x) (f x) h

  pub within_near : (rank : ℕ → ℕ) (actors steps : ℕ) (x : EventPlace) → IsLeastPlace near x → EventsArePlaced rank actors steps (either_of near far) → IsPlaceIn rank actors steps x
  within_near rank actors steps x least sound = sound x (some_near (near x) (far x) least.there)

  pub within_far : (rank : ℕ → ℕ) (actors steps : ℕ) (x : EventPlace) → IsLeastPlace far x → EventsArePlaced rank actors steps (either_of near far) → IsPlaceIn rank actors steps x
  within_far rank actors steps x least sound = sound x (some_far (near x) (far x) least.there)

or_twice : (x y z : Option ℤ) → or_else x (or_else y z) ≡ or_else (or_else x y) z
or_twice None y z = refl
or_twice (Some v) y z = refl

-- the values of the second part are written, and then those of the first
pub taken_parts : (n l : Values) (a : ℕ) (t : Tag) (old one two : List (Option ℤ))
    → one ≡ eight (λ p. or_else (l a p t) (at_port old p)) → two ≡ eight (λ p. or_else (n a p t) (at_port one p)) → two ≡ eight (λ p. or_else (added n l a p t) (at_port old p))
taken_parts n l a t old one two first second =
    second ∙ ap (λ m. eight (λ p. or_else (n a p t) (at_port m p))) first
    ∙ ap (λ (g : ℕ → Option ℤ). eight g) (λ i p. or_twice (n a p t) (l a p t) (at_port old p) i)

-- an event enters the second part
pub enters_far : (p : EventPlace) (v : ℤ) (near far new : EventPlace → Option ℤ) → Enters p v far new → Enters p v (either_of near far) (either_of near new)
enters_far p v near far new enters q = ap (or_else (near q)) (enters q) ∙ or_twice (near q) (far q) (when (is_eq (place_cmp p q)) (Some v))

-- or the first, where the second has none at its place
pub enters_near : (p : EventPlace) (v : ℤ) (near far new : EventPlace → Option ℤ) → far p ≡ None → Enters p v near new → Enters p v (either_of near far) (either_of new far)
enters_near p v near far new none enters q =
    ap (λ x. or_else x (far q)) (enters q) ∙ by (is_eq (place_cmp p q)) (near q) (far q) (λ e. subst (λ z. far z ≡ None) (one_place p q e) none)
  where
    by : (b : Bool) (x z : Option ℤ) → (b ≡ true → z ≡ None) → or_else (or_else x (when b (Some v))) z ≡ or_else (or_else x z) (when b (Some v))
    by b (Some w) z h = refl
    by true None z h = rw (h refl) refl
    by false None None h = refl
    by false None (Some w) h = refl
