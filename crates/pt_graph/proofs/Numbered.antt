-- Names that are known have numbers below the length of their list, and other names other numbers.
use Rattle.std.proofs.Common.{◌≡◌, ℕ, ◌+◌, ◌<◌, ◌≤◌, Bool, true, false, ◌||◌, List, [], ◌∷◌, ◌++◌, length, map, refl, ap, subst, sym, ◌∙◌, nat_lt, bytes_eq, cond, Option, Some, None, is_some, arith}
use Rattle.std.specs.List.{list_any, position_or_len}
use Rattle.std.proofs.lemmas.Bool.{ltb-true, lt-ltb}
use Rattle.std.proofs.lemmas.Option.{cond_some}
use Rattle.pt_types.specs.Lawful.{is_named, repeated_from}
use Rattle.pt_graph.specs.Known.{first_named}
use Rattle.pt_graph.specs.Graphs.{number_or_0}
use Rattle.pt_types.proofs.Conditions.{none_if}
use Rattle.pt_graph.proofs.InRange.{held_small}

some_value : {A : Type 0} (o : Option A) → is_some o ≡ true → (x : A) × (o ≡ Some x)
some_value (Some x) h = (x, refl)
some_value None h = absurd cc

index_below : {X : Type 0} (name_of : X → List ℕ) (xs : List X) (n : List ℕ) (i : ℕ) → first_named name_of xs n ≡ Some i → i < length xs
index_below name_of xs n i h =
    let found = cond_some (nat_lt (position_or_len (λ x. bytes_eq (name_of x) n) xs) (length xs)) (position_or_len (λ x. bytes_eq (name_of x) n) xs) i h in
    let less = ltb-true (position_or_len (λ x. bytes_eq (name_of x) n) xs) (length xs) found.0 in
    let same = found.1 in
    omega arith

-- the number of a known name
pub number_is : {X : Type 0} (name_of : X → List ℕ) (xs : List X) (n : List ℕ) → length xs ≤ 1024 → is_some (first_named name_of xs n) ≡ true → (i : ℕ) × (first_named name_of xs n ≡ Some i) × (i < length xs) × (number_or_0 (first_named name_of xs n) ≡ i)
number_is name_of xs n few h =
    let it = some_value (first_named name_of xs n) h in
    let less = index_below name_of xs n it.0 it.1 in
    (it.0, it.1, less, ap number_or_0 it.1 ∙ held_small it.0 (omega arith))

pub number_below : {X : Type 0} (name_of : X → List ℕ) (xs : List X) (n : List ℕ) → length xs ≤ 1024 → is_some (first_named name_of xs n) ≡ true → nat_lt (number_or_0 (first_named name_of xs n)) (length xs) ≡ true
number_below name_of xs n few h =
    let it = number_is name_of xs n few h in
    let less = it.2 in
    subst (λ i. nat_lt i (length xs) ≡ true) (sym it.3) (lt-ltb it.0 (length xs) less)

pub map_append : {X Y : Type 0} (f : X → Y) (xs ys : List X) → map f (xs ++ ys) ≡ map f xs ++ map f ys
map_append f [] ys = refl
map_append f (x ∷ xs) ys = ap (λ zs. f x ∷ zs) (map_append f xs ys)

pub if_none : {A : Type 0} (b : Bool) (x : A) (o : Option A) → b ≡ false → o ≡ None → cond b (Some x) o ≡ None
if_none true x o e h = absurd cc
if_none false x o e h = h

any_map : {X Y : Type 0} (test : Y → Bool) (f : X → Y) (xs : List X) → list_any test (map f xs) ≡ list_any (λ x. test (f x)) xs
any_map test f [] = refl
any_map test f (x ∷ xs) = ap (λ b. test (f x) || b) (any_map test f xs)

-- what has the names of others has a name twice exactly where they do
pub repeated_map : {X Y : Type 0} (f : X → Y) (name_of : Y → List ℕ) (seen : List X) (i : ℕ) (xs : List X) → repeated_from (λ x. name_of (f x)) seen i xs ≡ None → repeated_from name_of (map f seen) i (map f xs) ≡ None
repeated_map f name_of seen i [] h = refl
repeated_map f name_of seen i (x ∷ xs) h =
    let parts = none_if (is_named (λ y. name_of (f y)) seen (name_of (f x))) i (repeated_from (λ y. name_of (f y)) (seen ++ x ∷ []) (i + 1) xs) h in
    if_none (is_named name_of (map f seen) (name_of (f x))) i (repeated_from name_of (map f seen ++ f x ∷ []) (i + 1) (map f xs))
    (any_map (λ y. bytes_eq (name_of y) (name_of (f x))) f seen ∙ parts.0)
    (subst (λ ys. repeated_from name_of ys (i + 1) (map f xs) ≡ None) (map_append f seen (x ∷ [])) (repeated_map f name_of (seen ++ x ∷ []) (i + 1) xs parts.1))
