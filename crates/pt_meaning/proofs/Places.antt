-- The order of places, and what waits after one event more.
use Rattle.std.proofs.Common.{◌≡◌, ℕ, ◌≤◌, ◌==◌, ◌&&◌, Bool, true, false, cond, Some, None, Option, ℤ, refl, ap, subst, ◌∙◌, arith, IsSome}
use Rattle.std.proofs.lemmas.Bool.Decides.{nat_tests}
use Rattle.std.proofs.lemmas.Grind.{common_steps}
use Rattle.std.specs.Ordering.{is_gt, is_eq}
use Rattle.pt_tags.specs.declared.tag.Tag.{Tag}
use Rattle.pt_tags.specs.Tags.{same_tag}
use Rattle.pt_types.specs.Ports.{when}
use Rattle.pt_semantics.specs.Lists.{or_else}
use Rattle.pt_semantics.specs.Meaning.{added}
use Rattle.pt_meaning.specs.declared.place.EventPlace.{EventPlace}
use Rattle.pt_meaning.specs.Both.{IsUpTo}
use Rattle.pt_meaning.specs.Front.{Enters, Replaces}
use Rattle.pt_meaning.specs.Waiting.{place_cmp, place_of, waits_in, value_at, IsPlaceIn, EventsArePlaced}

pub up_to : (x y : EventPlace) → is_gt (place_cmp x y) ≡ false → IsUpTo x y
up_to x y h = grind (arith, nat_tests, common_steps)

-- two places are one where the actor, the port and the tag are
pub same_place : (x y : EventPlace) → (x.actor ≡ y.actor → x.rank ≡ y.rank) → is_eq (place_cmp x y) ≡ (x.actor == y.actor && x.port == y.port && same_tag x.tag y.tag)
same_place x y ranks = grind (arith, nat_tests, common_steps)

-- a place is itself
pub same_self : (x : EventPlace) → is_eq (place_cmp x x) ≡ true
same_self x = grind (arith, nat_tests, common_steps)

pub one_place : (x y : EventPlace) → is_eq (place_cmp x y) ≡ true → x ≡ y
one_place x y h =
    let time : x.tag.time ≡ y.tag.time = grind (arith, nat_tests, common_steps) in
    let step : x.tag.step ≡ y.tag.step = grind (arith, nat_tests, common_steps) in
    let rank : x.rank ≡ y.rank = grind (arith, nat_tests, common_steps) in
    let actor : x.actor ≡ y.actor = grind (arith, nat_tests, common_steps) in
    let port : x.port ≡ y.port = grind (arith, nat_tests, common_steps) in
    λ i. record { tag = record { time = time i; step = step i }; rank = rank i; actor = actor i; port = port i }

-- the value that was replaced, and then put back
pub same_again : (b : Bool) (x : Option ℤ) (first value : ℤ) → (b ≡ true → x ≡ Some first) → cond b (Some first) (cond b (Some value) x) ≡ or_else x (when b (Some value))
same_again true x first value h = rw (h refl) refl
same_again false None first value h = refl
same_again false (Some v) first value h = refl

-- a value where none was
pub new_value : (b : Bool) (x : Option ℤ) (value : ℤ) → (b ≡ true → x ≡ None) → cond b (Some value) x ≡ or_else x (when b (Some value))
new_value true x value h = rw (h refl) refl
new_value false None value h = refl
new_value false (Some v) value h = refl

-- an event is put where none was
pub enters_new : (place : EventPlace) (value : ℤ) (old new : EventPlace → Option ℤ) → old place ≡ None → Replaces place value old new → Enters place value old new
enters_new place value old new absent puts q =
    puts q ∙ new_value (is_eq (place_cmp place q)) (old q) value (λ e. subst (λ z. old z ≡ None) (one_place place q e) absent)

-- an event is put where one was, and that one is put back
pub enters_again : (place : EventPlace) (value first : ℤ) (old between new : EventPlace → Option ℤ) → old place ≡ Some first
    → Replaces place value old between → Replaces place first between new → Enters place value old new
enters_again place value first old between new was puts back q =
    back q ∙ ap (cond (is_eq (place_cmp place q)) (Some first)) (puts q)
    ∙ same_again (is_eq (place_cmp place q)) (old q) first value (λ e. subst (λ z. old z ≡ Some first) (one_place place q e) was)

pub waits_add : (rank : ℕ → ℕ) (place : EventPlace) (value : ℤ) (old new : EventPlace → Option ℤ) → place.rank ≡ rank place.actor
    → Enters place value old new → waits_in rank new ≡ added (waits_in rank old) (value_at place value)
waits_add rank place value old new ranked enters = λ i a p t. at a p t i
  where
    at : (a p : ℕ) (t : Tag) → waits_in rank new a p t ≡ added (waits_in rank old) (value_at place value) a p t
    at a p t =
        let q : EventPlace = place_of rank a p t in
        enters q ∙ ap (λ b. or_else (old q) (when b (Some value))) (same_place place q (λ e. ranked ∙ ap rank e))

sound_by : (rank : ℕ → ℕ) (actors steps : ℕ) (place x : EventPlace) (b : Bool) (old : Option ℤ) (value : ℤ) → (b ≡ true → place ≡ x) → IsPlaceIn rank actors steps place
    → (IsSome old → IsPlaceIn rank actors steps x) → IsSome (or_else old (when b (Some value))) → IsPlaceIn rank actors steps x
sound_by rank actors steps place x b (Some v) value same one was h = was refl
sound_by rank actors steps place x true None value same one was h = subst (IsPlaceIn rank actors steps) (same refl) one
sound_by rank actors steps place x false None value same one was h = absurd cc

pub sound_add : (rank : ℕ → ℕ) (actors steps : ℕ) (place : EventPlace) (value : ℤ) (old new : EventPlace → Option ℤ) → IsPlaceIn rank actors steps place
    → Enters place value old new → EventsArePlaced rank actors steps old → EventsArePlaced rank actors steps new
sound_add rank actors steps place value old new placed enters was x h =
    sound_by rank actors steps place x (is_eq (place_cmp place x)) (old x) value (one_place place x) placed (was x) (subst IsSome (enters x) h)

-- the bound on steps may grow
pub sound_more : (rank : ℕ → ℕ) (actors steps more : ℕ) (events : EventPlace → Option ℤ) → steps ≤ more → EventsArePlaced rank actors steps events → EventsArePlaced rank actors more events
sound_more rank actors steps more events grows sound x h = let at = sound x h in record { rank_is = at.rank_is; actor = at.actor; port = at.port; step = omega (arith, at.step, grows) }
