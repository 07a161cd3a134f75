-- The events of a line and of a map, as places of which none is twice.
use Rattle.std.proofs.Common.{◌≡◌, ℕ, suc, ◌*◌, ◌/◌, ◌<◌, ◌≤◌, Bool, true, false, cond, nat_lt, Some, None, Option, IsSome, IsTrue, ℤ, List, [], ◌∷◌, length, map, refl, sym, ap, subst, ◌∙◌, arith}
use Rattle.std.specs.Ordering.{is_eq}
use Rattle.std.specs.Map.{keys_of, lookup}
use Rattle.std.specs.List.{AllByRecursion}
use Rattle.std.specs.List.Sorted.{IsStrictlySortedBy}
use Rattle.std.specs.declared.cmp.Ordering.TheVariants.{Less}
use Rattle.std.proofs.lemmas.Bool.Decides.{nat_tests}
use Rattle.pt_semantics.specs.Lists.{or_else, Each}
use Rattle.pt_meaning.specs.declared.place.EventPlace.{EventPlace}
use Rattle.pt_meaning.specs.declared.gap_buffer.Sent.{Sent}
use Rattle.pt_meaning.specs.Crowded.{IsCrowded, PlacesRise}
use Rattle.pt_meaning.specs.Line.{in_line, IsSortedLine}
use Rattle.pt_meaning.specs.Waiting.{place_cmp}
use Rattle.pt_meaning.proofs.Places.{same_self}
use Rattle.pt_meaning.proofs.Parts.{some_near, some_far}

more_than : (firings count n : ℕ) → count ≤ n → IsTrue (nat_lt firings (count / 8)) → 8 * firings < n
more_than firings count n low h = grind (arith, nat_tests)

some_at : (b : Bool) (v : ℤ) (o : Option ℤ) → b ≡ true → IsSome (cond b (Some v) o)
some_at true v o h = refl
some_at false v o h = absurd cc

some_after : (b : Bool) (v : ℤ) (o : Option ℤ) → IsSome o → IsSome (cond b (Some v) o)
some_after true v o h = refl
some_after false v o h = h

each_to : (P Q : EventPlace → Type 0) → ((x : EventPlace) → P x → Q x) → (places : List EventPlace) → Each P places → Each Q places
each_to P Q to [] each = tt
each_to P Q to (x ∷ places) each = (to x each.0, each_to P Q to places each.1)

line_after : (x : EventPlace) (events : List Sent) → Each (λ (f : Sent). place_cmp x f.place ≡ Less) events → Each (λ (y : EventPlace). place_cmp x y ≡ Less) (map (λ (e : Sent). e.place) events)
line_after x [] after = tt
line_after x (e ∷ events) after = (after.0, line_after x events after.1)

line_rises : (events : List Sent) → IsSortedLine place_cmp events → PlacesRise (map (λ (e : Sent). e.place) events)
line_rises [] rising = tt
line_rises (e ∷ events) rising = (line_after e.place events rising.0, line_rises events rising.1)

line_there : (events : List Sent) → Each (λ (x : EventPlace). IsSome (in_line place_cmp events x)) (map (λ (e : Sent). e.place) events)
line_there [] = tt
line_there (e ∷ events) = (
  some_at (is_eq (place_cmp e.place e.place)) e.value (in_line place_cmp events e.place) (same_self e.place),
  each_to (λ x. IsSome (in_line place_cmp events x)) (λ x. IsSome (in_line place_cmp (e ∷ events) x)) (λ x h. some_after (is_eq (place_cmp e.place x)) e.value (in_line place_cmp events x) h) (map (λ (f : Sent). f.place) events) (line_there events),
)

same_length : {X Y : Type 0} (f : X → Y) (xs : List X) → length (map f xs) ≡ length xs
same_length f [] = refl
same_length f (x ∷ xs) = ap suc (same_length f xs)

pub line_crowded : (events : List Sent) (firings count : ℕ) → IsSortedLine place_cmp events → count ≤ length events → IsTrue (nat_lt firings (count / 8)) → IsCrowded (in_line place_cmp events) firings
line_crowded events firings count rising low h = record {
  places = map (λ (e : Sent). e.place) events;
  rising = line_rises events rising;
  there = line_there events;
  many = more_than firings count (length (map (λ (e : Sent). e.place) events)) (let same = same_length (λ (e : Sent). e.place) events in omega (arith, low, same)) h;
}

abbrev value_in : List (EventPlace × ℤ) → EventPlace → Option ℤ
value_in entries q = lookup (λ k. is_eq (place_cmp q k)) entries

all_after : (x : EventPlace) (places : List EventPlace) → AllByRecursion (λ y. place_cmp x y ≡ Less) places → Each (λ (y : EventPlace). place_cmp x y ≡ Less) places
all_after x [] after = tt
all_after x (y ∷ places) after = (after.0, all_after x places after.1)

keys_rise : (places : List EventPlace) → IsStrictlySortedBy place_cmp places → PlacesRise places
unfolding IsStrictlySortedBy
keys_rise [] rising = tt
keys_rise (x ∷ places) rising = (all_after x places rising.0, keys_rise places rising.1)

keys_there : (entries : List (EventPlace × ℤ)) → Each (λ (x : EventPlace). IsSome (value_in entries x)) (keys_of entries)
keys_there [] = tt
keys_there (e ∷ entries) = (
  some_at (is_eq (place_cmp e.0 e.0)) e.1 (value_in entries e.0) (same_self e.0),
  each_to (λ x. IsSome (value_in entries x)) (λ x. IsSome (value_in (e ∷ entries) x)) (λ x h. some_after (is_eq (place_cmp x e.0)) e.1 (value_in entries x) h) (keys_of entries) (keys_there entries),
)

pub map_crowded : (entries : List (EventPlace × ℤ)) (firings : ℕ) → IsStrictlySortedBy place_cmp (keys_of entries) → IsTrue (nat_lt firings (length entries / 8)) → IsCrowded (value_in entries) firings
map_crowded entries firings rising h = record {
  places = keys_of entries;
  rising = keys_rise (keys_of entries) rising;
  there = keys_there entries;
  many = more_than firings (length entries) (length (keys_of entries)) (let same = same_length (λ (e : EventPlace × ℤ). e.0) entries in omega (arith, same)) h;
}

-- a crowd in a part is one in the whole
pub crowded_near : (near far : EventPlace → Option ℤ) (firings : ℕ) → IsCrowded near firings → IsCrowded (λ q. or_else (near q) (far q)) firings
crowded_near near far firings crowd = record {
  places = crowd.places;
  rising = crowd.rising;
  there = each_to (λ x. IsSome (near x)) (λ x. IsSome (or_else (near x) (far x))) (λ x h. some_near (near x) (far x) h) crowd.places crowd.there;
  many = crowd.many;
}

pub crowded_far : (near far : EventPlace → Option ℤ) (firings : ℕ) → IsCrowded far firings → IsCrowded (λ q. or_else (near q) (far q)) firings
crowded_far near far firings crowd = record {
  places = crowd.places;
  rising = crowd.rising;
  there = each_to (λ x. IsSome (far x)) (λ x. IsSome (or_else (near x) (far x))) (λ x h. some_far (near x) (far x) h) crowd.places crowd.there;
  many = crowd.many;
}
