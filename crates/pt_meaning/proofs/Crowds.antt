-- Where more events wait than some firings can take, so many firings follow, and events wait still.
use Rattle.std.proofs.Common.{◌≡◌, ℕ, zero, suc, ◌+◌, ◌*◌, ◌<◌, ◌≤◌, ◌==◌, ◌&&◌, not, Bool, true, false, cond, Some, None, Option, IsSome, ℤ, List, [], ◌∷◌, ◌++◌, filter, length, refl, sym, ap, subst, ◌∙◌, arith}
use Rattle.std.specs.declared.cmp.Ordering.TheVariants.{Less}
use Rattle.std.proofs.lemmas.Bool.Decides.{nat_tests}
use Rattle.std.proofs.lemmas.Grind.{common_steps}
use Rattle.std.proofs.lemmas.List.{length-append}
use Rattle.pt_tags.specs.declared.tag.Tag.{Tag}
use Rattle.pt_tags.specs.Tags.{same_tag}
use Rattle.pt_types.specs.declared.graph.Graph.{Graph}
use Rattle.pt_types.specs.Ports.{when}
use Rattle.pt_semantics.specs.Edges.{edges}
use Rattle.pt_semantics.specs.Lists.{or_else, Each}
use Rattle.pt_semantics.specs.Meaning.{Values, World, ActorFiring, Steps, IsLonger, after_firing, at_start, going, leaves_actor, rows_until, waiting}
use Rattle.pt_types.specs.declared.rows.Row.{Row}
use Rattle.pt_meaning.specs.declared.place.EventPlace.{EventPlace}
use Rattle.pt_meaning.specs.declared.world.WaitingEvents.{WaitingEvents}
use Rattle.pt_meaning.specs.Both.{all_waits, AreSound}
use Rattle.pt_meaning.specs.Crowded.{IsCrowded, PlacesRise}
use Rattle.pt_meaning.specs.Early.{early_waits, left}
use Rattle.pt_meaning.specs.Emission.{IsUsable}
use Rattle.pt_meaning.specs.Front.{is_place_of}
use Rattle.pt_meaning.specs.Held.{late_value}
use Rattle.pt_meaning.specs.Running.{actor_firing}
use Rattle.pt_meaning.specs.Waiting.{place_cmp, place_of, waits_in}
use Rattle.pt_meaning.proofs.Both.{some_late}
use Rattle.pt_meaning.proofs.Taking.{its_place}
use Rattle.pt_meaning.proofs.FiredOn.{fires_by}
use Rattle.pt_meaning.proofs.Firsts.{AreWithin, First, first_of_all}
use Rattle.pt_meaning.proofs.Spans.{after_within, all_within}

-- an event waits at the place, which is where its actor's rank puts it
record Waits (rank : ℕ → ℕ) (waits : Values) (x : EventPlace) : Type 0 where
  ranked : x.rank ≡ rank x.actor
  port : x.port < 8
  value : ℤ
  is : waits x.actor x.port x.tag ≡ Some value

-- a place is none of the actor's at the tag
abbrev is_other : Tag → ℕ → EventPlace → Bool
is_other t a x = not (is_place_of t a x)

not_false : (b : Bool) → not b ≡ true → b ≡ false
not_false true h = absurd cc
not_false false h = refl

-- the places that are left rise still
each_of : {X : Type 0} (P Q : X → Type 0) (test : X → Bool) → ((x : X) → test x ≡ true → P x → Q x) → (xs : List X) → Each P xs → Each Q (filter test xs)
each_of P Q test to [] each = tt
each_of P Q test to (x ∷ xs) each = by (test x) refl (each_of P Q test to xs each.1)
  where
    by : (b : Bool) → test x ≡ b → Each Q (filter test xs) → Each Q (cond b (x ∷ filter test xs) (filter test xs))
    by true h rest = (to x h each.0, rest)
    by false h rest = rest

rise_left : (test : EventPlace → Bool) (places : List EventPlace) → PlacesRise places → PlacesRise (filter test places)
rise_left test [] rise = tt
rise_left test (x ∷ places) rise = by (test x) (rise_left test places rise.1)
  where
    by : (b : Bool) → PlacesRise (filter test places) → PlacesRise (cond b (x ∷ filter test places) (filter test places))
    by true rest = (each_of (λ (y : EventPlace). place_cmp x y ≡ Less) (λ (y : EventPlace). place_cmp x y ≡ Less) test (λ y _ h. h) places rise.0, rest)
    by false rest = rest

-- of one actor at one tag the ports rise
ports_rise : (t : Tag) (a : ℕ) (x y : EventPlace) → x.rank ≡ y.rank → place_cmp x y ≡ Less → is_place_of t a x ≡ true → is_place_of t a y ≡ true → x.port + 1 ≤ y.port
ports_rise t a x y ranks less here there = grind (arith, nat_tests, common_steps)

same_rank : (rank : ℕ → ℕ) (t : Tag) (a : ℕ) (x y : EventPlace) → x.rank ≡ rank x.actor → y.rank ≡ rank y.actor → is_place_of t a x ≡ true → is_place_of t a y ≡ true → x.rank ≡ y.rank
same_rank rank t a x y ranked ranked_y here there =
    let one : x.actor ≡ a = grind (arith, nat_tests, common_steps) in
    let two : y.actor ≡ a = grind (arith, nat_tests, common_steps) in
    ranked ∙ ap rank (one ∙ sym two) ∙ sym ranked_y

-- ports from this one on
abbrev FromPort : Tag → ℕ → ℕ → EventPlace → Type 0
FromPort t a k x = is_place_of t a x ≡ true → k ≤ x.port

-- an actor has eight events at a tag at most
few_taken : (rank : ℕ → ℕ) (waits : Values) (t : Tag) (a k : ℕ) (places : List EventPlace) → PlacesRise places → Each (Waits rank waits) places → Each (FromPort t a k) places → k ≤ 8
    → length places + k ≤ 8 + length (filter (is_other t a) places)
few_taken rank waits t a k [] rise are from low = omega (arith, low)
few_taken rank waits t a k (x ∷ places) rise are from low = by (is_place_of t a x) refl (λ j. few_taken rank waits t a j places rise.1 are.1)
  where
    after_it : is_place_of t a x ≡ true → (ys : List EventPlace) → Each (λ (y : EventPlace). place_cmp x y ≡ Less) ys → Each (Waits rank waits) ys → Each (FromPort t a (x.port + 1)) ys
    after_it here [] less are_y = tt
    after_it here (y ∷ ys) less are_y = (λ there. ports_rise t a x y (same_rank rank t a x y are.0.ranked are_y.0.ranked here there) less.0 here there, after_it here ys less.1 are_y.1)

    by : (b : Bool) → is_place_of t a x ≡ b → ((j : ℕ) → Each (FromPort t a j) places → j ≤ 8 → length places + j ≤ 8 + length (filter (is_other t a) places))
        → suc (length places) + k ≤ 8 + length (cond (not b) (x ∷ filter (is_other t a) places) (filter (is_other t a) places))
    by true here rest_from =
        let up : k ≤ x.port = from.0 here in let port : x.port < 8 = are.0.port in
        let rest = rest_from (x.port + 1) (after_it here places rise.0 are.1) (omega (arith, port)) in
        omega (arith, up, rest)
    by false here rest_from = let rest = rest_from k from.1 low in omega (arith, rest)

from_zero : (t : Tag) (a : ℕ) (places : List EventPlace) → Each (FromPort t a 0) places
from_zero t a [] = tt
from_zero t a (x ∷ places) = (λ _. omega arith, from_zero t a places)

-- the events of others wait on after a firing
waits_on : (g : Graph) (rank : ℕ → ℕ) (w : World) (x : ActorFiring) (q : EventPlace) → is_other x.tag x.actor q ≡ true → Waits rank w.waits q → Waits rank (after_firing g w x).waits q
waits_on g rank w x q other was = record {
  ranked = was.ranked;
  port = was.port;
  value = was.value;
  is = ap (λ b. or_else (when (not b) (w.waits q.actor q.port q.tag)) (going g (edges g) (leaves_actor x.actor) x.tag x.outputs q.actor q.port q.tag)) (not_false (is_place_of x.tag x.actor q) other)
      ∙ ap (λ o. or_else o (going g (edges g) (leaves_actor x.actor) x.tag x.outputs q.actor q.port q.tag)) was.is;
}

-- so many firings follow, and then something waits
record GoesOn (g : Graph) (rank : ℕ → ℕ) (w : World) (firings : ℕ) : Type 0 where
  list : List ActorFiring
  count : length list ≡ firings
  world : World
  steps : Steps g rank w list world
  more : (a p : ℕ) × (t : Tag) × (v : ℤ) × (world.waits a p t ≡ Some v)

goes_on : (g : Graph) (rank : ℕ → ℕ) (n : ℕ) → Each (IsUsable n) (edges g) → (firings steps : ℕ) (w : World) (places : List EventPlace)
    → AreWithin n g.until steps w.waits → PlacesRise places → Each (Waits rank w.waits) places → 8 * firings < length places → GoesOn g rank w firings
goes_on g rank n usable firings steps w [] within rise are many = absurd (omega (arith, many))
goes_on g rank n usable zero steps w (q ∷ places) within rise are many = record {
  list = [];
  count = refl;
  world = w;
  steps = refl;
  more = (q.actor, q.port, q.tag, are.0.value, are.0.is);
}
goes_on g rank n usable (suc firings) steps w (q ∷ places) within rise are many =
    let next : First rank w.waits steps = first_of_all rank w.waits n g.until steps within q.actor q.port q.tag are.0.value are.0.is in
    let x : ActorFiring = actor_firing g w.states next.actor next.tag (waiting w.waits next.actor next.tag) in
    let few = few_taken rank w.waits next.tag next.actor 0 (q ∷ places) rise are (from_zero next.tag next.actor (q ∷ places)) (omega arith) in
    let rest = goes_on g rank n usable firings (suc steps) (after_firing g w x) (filter (is_other next.tag next.actor) (q ∷ places))
    (after_within g n steps w x usable next.step within)
    (rise_left (is_other next.tag next.actor) (q ∷ places) rise)
    (each_of (Waits rank w.waits) (Waits rank (after_firing g w x).waits) (is_other next.tag next.actor) (waits_on g rank w x) (q ∷ places) are)
    (omega (arith, many, few)) in
    record {
      list = x ∷ rest.list;
      count = ap suc rest.count;
      world = rest.world;
      steps = (fires_by g rank w next.actor next.tag next.first next.present, rest.steps);
      more = rest.more;
    }

steps_append : (g : Graph) (rank : ℕ → ℕ) (w : World) (xs : List ActorFiring) (v : World) (ys : List ActorFiring) (u : World) → Steps g rank w xs v → Steps g rank v ys u → Steps g rank w (xs ++ ys) u
steps_append g rank w [] v ys u first then = subst (λ (z : World). Steps g rank z ys u) (sym first) then
steps_append g rank w (x ∷ xs) v ys u first then = (first.0, steps_append g rank (after_firing g w x) xs v ys u first.1 then)

-- what is crowded among the events that were sent waits in all
is_there : (x : Option ℤ) → IsSome x → (v : ℤ) × (x ≡ Some v)
is_there None h = absurd cc
is_there (Some v) h = (v, refl)

crowd_waits : (rank : ℕ → ℕ) (n steps : ℕ) (w : WaitingEvents) → AreSound rank n steps w → (places : List EventPlace) → Each (λ (x : EventPlace). IsSome (late_value w.late x)) places → Each (Waits rank (all_waits rank w)) places
crowd_waits rank n steps w sound [] there = tt
crowd_waits rank n steps w sound (x ∷ places) there =
    let at = sound.late x there.0 in
    let some = is_there (late_value w.late x) there.0 in
    let stands : x ≡ place_of rank x.actor x.port x.tag = its_place rank x x.actor x.port x.tag at.rank_is refl refl refl in
    let late : waits_in rank (late_value w.late) x.actor x.port x.tag ≡ Some some.0 = subst (λ z. late_value w.late z ≡ Some some.0) stands some.1 in
    let all = some_late (early_waits (left w.early) x.actor x.port x.tag) (waits_in rank (late_value w.late) x.actor x.port x.tag) some.0 late in
    (record { ranked = at.rank_is; port = at.port; value = all.0; is = all.1 }, crowd_waits rank n steps w sound places there.1)

-- a crowd makes the meaning too long
pub crowd_is_long : (g : Graph) (rank : ℕ → ℕ) (n steps most : ℕ) (rows : ℕ → List Row) (xs : List ActorFiring) (v : World) (w : WaitingEvents)
    → Each (IsUsable n) (edges g) → Steps g rank (at_start g (λ a. rows_until g.until (rows a))) xs v → v.waits ≡ all_waits rank w → AreSound rank n steps w
    → (firings : ℕ) → length xs + firings ≡ most → IsCrowded (late_value w.late) firings → IsLonger g rank (λ a. rows_until g.until (rows a)) most
crowd_is_long g rank n steps most rows xs v w usable went same sound firings sum crowd =
    let on = goes_on g rank n usable firings steps v crowd.places (all_within g rank n steps rows xs v w went same sound) crowd.rising
    (subst (λ (waits : Values). Each (Waits rank waits) crowd.places) (sym same) (crowd_waits rank n steps w sound crowd.places crowd.there)) crowd.many in
    record {
      firings = xs ++ on.list;
      count = length-append xs on.list ∙ ap (λ m. length xs + m) on.count ∙ sum;
      world = on.world;
      steps = steps_append g rank (at_start g (λ a. rows_until g.until (rows a))) xs v on.list on.world went on.steps;
      more = on.more;
    }
