-- Room for a turn is room for a lesser one.
use Rattle.std.proofs.Common.{◌≡◌, ℕ, ◌+◌, ◌*◌, ◌≤◌, true, false, nat_le, List, [], ◌∷◌, ◌++◌, Option, Some, None, length, map, flat_map, sym, ap, subst, arith, length-append, ⊎_elim}
use Rattle.std.specs.Prelude.{MatchOption}
use Rattle.std.specs.List.{range_with_len}
use Rattle.std.proofs.lemmas.Bool.{cases_Bool, cond-true, cond-false}
use Rattle.std.proofs.lemmas.Bool.Decides.{nat_tests}
use Rattle.std.proofs.lemmas.List.{length-map}
use Rattle.std.proofs.Math.Nat.{mul-le-mul_right}
use Rattle.pt_types.specs.declared.graph.Graph.{Graph}
use Rattle.pt_types.specs.declared.rows.Row.{Row}
use Rattle.pt_types.specs.declared.rows.RowAt.{RowAt}
use Rattle.pt_semantics.specs.Entering.{due}
use Rattle.pt_semantics.specs.Readings.{later_of}
use Rattle.pt_semantics.proofs.Lookups.{none_some}
use Rattle.pt_turn.specs.declared.state.fields.Fields.{Fields}
use Rattle.pt_turn.specs.Fields.State.{left_in}
use Rattle.pt_turn.specs.Fields.Sensors.{at_sensor}
use Rattle.pt_turn.specs.Steps.{HasRoom, count_due}
use Rattle.pt_turn.specs.declared.steps.Lists.{Lists}
use Rattle.pt_turn.specs.declared.room.Room.{Room}
use Rattle.pt_turn.specs.Platforms.{raised_to}

-- a reading that is raised
later_least : (p r : ℕ) → p ≤ later_of p r
later_least p r =
    ⊎_elim
    (λ (e : nat_le p r ≡ true). subst (λ n. p ≤ n) (sym (cond-true (nat_le p r) r p e)) (grind (arith, nat_tests)))
    (λ (e : nat_le p r ≡ false). subst (λ n. p ≤ n) (sym (cond-false (nat_le p r) r p e)) (omega arith))
    (cases_Bool (nat_le p r))

later_on : (p r s : ℕ) → r ≤ s → later_of p r ≤ later_of p s
later_on p r s le =
    ⊎_elim
    (λ (e : nat_le p r ≡ true). let f : nat_le p s ≡ true = grind (arith, nat_tests) in subst (λ n. n ≤ later_of p s) (sym (cond-true (nat_le p r) r p e)) (subst (λ n. r ≤ n) (sym (cond-true (nat_le p s) s p f)) le))
    (λ (e : nat_le p r ≡ false). subst (λ n. n ≤ later_of p s) (sym (cond-false (nat_le p r) r p e)) (later_least p s))
    (cases_Bool (nat_le p r))

some_number : (p q : ℕ) → Some p ≡ Some q → p ≡ q
some_number p q e = ap (number p) e
  where
    number : ℕ → Option ℕ → ℕ
    number d None = d
    number d (Some n) = n

pub raised_rises : (last : Option ℕ) (r p : ℕ) → last ≡ Some p → p ≤ raised_to last r
raised_rises None r p e = absurd (none_some p e)
raised_rises (Some q) r p e = subst (λ n. n ≤ later_of q r) (some_number q p e) (later_least q r)

pub raised_on : (last : Option ℕ) (r s : ℕ) → r ≤ s → raised_to last r ≤ raised_to last s
raised_on None r s le = le
raised_on (Some p) r s le = later_on p r s le

-- more rows are due at a later reading
due_on : (r s : ℕ) (rows : List Row) → r ≤ s → length (due r rows) ≤ length (due s rows)
due_on r s [] le = omega arith
due_on r s (x ∷ xs) le =
    ⊎_elim
    (λ (e : nat_le x.seen r ≡ true). let f : nat_le x.seen s ≡ true = grind (arith, nat_tests) in let more : length (due r xs) ≤ length (due s xs) = due_on r s xs le in
    subst (λ ys. length ys ≤ length (due s (x ∷ xs))) (sym (cond-true (nat_le x.seen r) (x ∷ due r xs) [] e)) (subst (λ ys. length (x ∷ due r xs) ≤ length ys) (sym (cond-true (nat_le x.seen s) (x ∷ due s xs) [] f)) (omega (arith, more))))
    (λ (e : nat_le x.seen r ≡ false). subst (λ (ys : List Row). length ys ≤ length (due s (x ∷ xs))) (sym (cond-false (nat_le x.seen r) (x ∷ due r xs) [] e)) (omega arith))
    (cases_Bool (nat_le x.seen r))

flat_on : {X Y : Type 0} (f h : X → List Y) (xs : List X) → ((x : X) → length (f x) ≤ length (h x)) → length (flat_map f xs) ≤ length (flat_map h xs)
flat_on f h [] le = omega arith
flat_on f h (x ∷ xs) le =
    let one : length (f x) ≤ length (h x) = le x in
    let rest : length (flat_map f xs) ≤ length (flat_map h xs) = flat_on f h xs le in
    let left : length (f x ++ flat_map f xs) ≡ length (f x) + length (flat_map f xs) = length-append (f x) (flat_map f xs) in
    let right : length (h x ++ flat_map h xs) ≡ length (h x) + length (flat_map h xs) = length-append (h x) (flat_map h xs) in
    omega (arith, one, rest, left, right)

due_at : ℕ → Fields → ℕ → List RowAt
due_at r f a = map (at_sensor a) (due r (left_in f.sensors.items a))

due_at_on : (r s : ℕ) (f : Fields) (a : ℕ) → r ≤ s → length (due_at r f a) ≤ length (due_at s f a)
unfolding due_at
due_at_on r s f a le =
    let one : length (due r (left_in f.sensors.items a)) ≤ length (due s (left_in f.sensors.items a)) = due_on r s (left_in f.sensors.items a) le in
    let left : length (map (at_sensor a) (due r (left_in f.sensors.items a))) ≡ length (due r (left_in f.sensors.items a)) = length-map (due r (left_in f.sensors.items a)) (at_sensor a) in
    let right : length (map (at_sensor a) (due s (left_in f.sensors.items a))) ≡ length (due s (left_in f.sensors.items a)) = length-map (due s (left_in f.sensors.items a)) (at_sensor a) in
    omega (arith, one, left, right)

pub count_on : (g : Graph) (r s : ℕ) (f : Fields) → r ≤ s → count_due g r f ≤ count_due g s f
unfolding due_at
count_on g r s f le = flat_on (due_at r f) (due_at s f) (range_with_len 0 (length g.actors)) (λ a. due_at_on r s f a le)

pub has_room_on : (g : Graph) (f : Fields) (lists : Lists) (r s dones most_dones messages most_messages n most : ℕ) → r ≤ s → dones ≤ most_dones → messages ≤ most_messages → n ≤ most → HasRoom g f lists s most_dones most_messages most → HasRoom g f lists r dones messages n
has_room_on g f lists r s dones most_dones messages most_messages n most later d m k h =
    let due : count_due g r f ≤ count_due g s f = count_on g r s f later in
    let product : dones * length g.links ≤ most_dones * length g.links = mul-le-mul_right (length g.links) d in
    record {
      events = omega (arith, h.events, due, m);
      outbox = omega (arith, h.outbox, product);
      open_claims = omega (arith, h.open_claims, k);
      posted = omega (arith, h.posted, d);
      rows = omega (arith, h.rows, due);
      taken = omega (arith, h.taken, m);
      claimed = omega (arith, h.claimed, k);
    }

-- memory is reserved for this turn, or for none
pub some_room : (P : Room → Type 0) (o : Option Room) (r : Room) → o ≡ Some r → P r → MatchOption o (Unit {0}) P
some_room P o r is h = subst (λ z. MatchOption z (Unit {0}) P) (sym is) h

pub no_room : (P : Room → Type 0) (o : Option Room) → o ≡ None → MatchOption o (Unit {0}) P
no_room P o is = subst (λ z. MatchOption z (Unit {0}) P) (sym is) tt
