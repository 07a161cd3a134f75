-- The values at indices: each by its number, one index more, and one value more.
use Rattle.std.proofs.Common.{◌≡◌, ℕ, zero, suc, ◌-◌, ◌<◌, ◌≤◌, List, [], ◌∷◌, ◌++◌, length, get_or, replicate, Some, take, drop, refl, sym, ap, ap₂, ◌∙◌, arith, append-nil, length-append}
use Rattle.std.specs.Prelude.{slice_get}
use Rattle.std.proofs.lemmas.List.{append_assoc}
use Rattle.pt_semantics.proofs.Lookups.{none_some, same_some}
use Rattle.pt_history.specs.Indices.{AreBelow, values_at}

pub below_more : (n m : ℕ) (is : List ℕ) → n ≤ m → AreBelow n is → AreBelow m is
below_more n m [] le h = tt
below_more n m (i ∷ is) le h = let lt : i < n = h.0 in (omega (arith, lt, le), below_more n m is le h.1)

pub below_push : (n i : ℕ) (is : List ℕ) → AreBelow n is → i < n → AreBelow n (is ++ i ∷ [])
below_push n i [] h lt = (lt, tt)
below_push n i (j ∷ is) h lt = (h.0, below_push n i is h.1 lt)

pub below_get : (n k : ℕ) (is : List ℕ) → AreBelow n is → k < length is → get_or is k 0 < n
below_get n k [] h lt = absurd (omega arith)
below_get n zero (i ∷ is) h lt = h.0
below_get n (suc k) (i ∷ is) h lt = below_get n k is h.1 (omega arith)

-- one value
one_long : {X : Type 0} (values : List X) (i : ℕ) → i < length values → length (take 1 (drop i values)) ≡ 1
one_long [] i lt = absurd (omega arith)
one_long (v ∷ values) zero lt = refl
one_long (v ∷ values) (suc i) lt = one_long values i (omega arith)

one_more : {X : Type 0} (values : List X) (x : X) (i : ℕ) → i < length values → take 1 (drop i (values ++ x ∷ [])) ≡ take 1 (drop i values)
one_more [] x i lt = absurd (omega arith)
one_more (v ∷ values) x zero lt = refl
one_more (v ∷ values) x (suc i) lt = one_more values x i (omega arith)

one_at : {X : Type 0} (values : List X) (i : ℕ) (x : X) → slice_get values i ≡ Some x → take 1 (drop i values) ≡ x ∷ []
one_at [] i x at = absurd (none_some x at)
one_at (v ∷ values) zero x at = ap (λ z. z ∷ []) (same_some v x at)
one_at (v ∷ values) (suc i) x at = one_at values i x at

newest : {X : Type 0} (values : List X) (x : X) → slice_get (values ++ x ∷ []) (length values) ≡ Some x
newest [] x = refl
newest (v ∷ values) x = newest values x

pub length-values : {X : Type 0} (values : List X) (is : List ℕ) → AreBelow (length values) is → length (values_at values is) ≡ length is
length-values values [] h = refl
length-values values (i ∷ is) h =
    let one : length (take 1 (drop i values)) ≡ 1 = one_long values i h.0 in
    let rest : length (values_at values is) ≡ length is = length-values values is h.1 in
    length-append (take 1 (drop i values)) (values_at values is) ∙ omega (arith, one, rest)

-- the value of a number
first_of : {X : Type 0} (values rest : List X) (i : ℕ) → i < length values → slice_get (take 1 (drop i values) ++ rest) 0 ≡ slice_get values i
first_of [] rest i lt = absurd (omega arith)
first_of (v ∷ values) rest zero lt = refl
first_of (v ∷ values) rest (suc i) lt = first_of values rest i (omega arith)

next_of : {X : Type 0} (values rest : List X) (i k : ℕ) → i < length values → slice_get (take 1 (drop i values) ++ rest) (suc k) ≡ slice_get rest k
next_of [] rest i k lt = absurd (omega arith)
next_of (v ∷ values) rest zero k lt = refl
next_of (v ∷ values) rest (suc i) k lt = next_of values rest i k (omega arith)

pub values_get : {X : Type 0} (values : List X) (is : List ℕ) (k : ℕ) → AreBelow (length values) is → k < length is → slice_get (values_at values is) k ≡ slice_get values (get_or is k 0)
values_get values [] k h lt = absurd (omega arith)
values_get values (i ∷ is) zero h lt = first_of values (values_at values is) i h.0
values_get values (i ∷ is) (suc k) h lt = next_of values (values_at values is) i k h.0 ∙ values_get values is k h.1 (omega arith)

-- one index more
values_push : {X : Type 0} (values : List X) (is : List ℕ) (i : ℕ) → values_at values (is ++ i ∷ []) ≡ values_at values is ++ take 1 (drop i values)
values_push values [] i = append-nil (take 1 (drop i values))
values_push values (j ∷ is) i = ap (λ l. take 1 (drop j values) ++ l) (values_push values is i) ∙ sym (append_assoc (take 1 (drop j values)) (values_at values is) (take 1 (drop i values)))

values_more : {X : Type 0} (values : List X) (x : X) (is : List ℕ) → AreBelow (length values) is → values_at (values ++ x ∷ []) is ≡ values_at values is
values_more values x [] h = refl
values_more values x (i ∷ is) h = ap₂ (λ a b. a ++ b) (one_more values x i h.0) (values_more values x is h.1)

-- a new value
pub pushed : {X : Type 0} (values : List X) (x : X) (is : List ℕ) (n : ℕ) → n ≡ length values → AreBelow (length values) is → values_at (values ++ x ∷ []) (is ++ n ∷ []) ≡ values_at values is ++ x ∷ []
pushed values x is n last h =
    values_push (values ++ x ∷ []) is n
    ∙ ap₂ (λ a b. a ++ b) (values_more values x is h) (ap (λ k. take 1 (drop k (values ++ x ∷ []))) last ∙ one_at (values ++ x ∷ []) (length values) x (newest values x))

-- the last value again
pub repeated : {X : Type 0} (values : List X) (x : X) (is : List ℕ) (n : ℕ) → n ≡ get_or is (length is - 1) 0 → AreBelow (length values) is → slice_get (values_at values is) (length (values_at values is) - 1) ≡ Some x
    → values_at values (is ++ n ∷ []) ≡ values_at values is ++ x ∷ []
repeated values x [] n last h at = absurd (none_some x at)
repeated values x (i ∷ is) n last h at =
    let many : length (values_at values (i ∷ is)) - 1 ≡ length (i ∷ is) - 1 = ap (λ k. k - 1) (length-values values (i ∷ is) h) in
    let is_last : slice_get values n ≡ Some x =
    ap (slice_get values) last ∙ sym (values_get values (i ∷ is) (length (i ∷ is) - 1) h (omega arith)) ∙ sym (ap (slice_get (values_at values (i ∷ is))) many) ∙ at in
    values_push values (i ∷ is) n ∙ ap (λ l. values_at values (i ∷ is) ++ l) (one_at values n x is_last)

-- a value many times
below_each : (n i m : ℕ) → i < n → AreBelow n (replicate m i)
below_each n i zero lt = tt
below_each n i (suc m) lt = (lt, below_each n i m lt)

pub below_repeat : (n i m : ℕ) (is : List ℕ) → AreBelow n is → i < n → AreBelow n (is ++ replicate m i)
below_repeat n i m [] h lt = below_each n i m lt
below_repeat n i m (j ∷ is) h lt = (h.0, below_repeat n i m is h.1 lt)

values_append : {X : Type 0} (values : List X) (is js : List ℕ) → values_at values (is ++ js) ≡ values_at values is ++ values_at values js
values_append values [] js = refl
values_append values (i ∷ is) js = ap (λ l. take 1 (drop i values) ++ l) (values_append values is js) ∙ sym (append_assoc (take 1 (drop i values)) (values_at values is) (values_at values js))

values_each : {X : Type 0} (values : List X) (x : X) (n m : ℕ) → take 1 (drop n values) ≡ x ∷ [] → values_at values (replicate m n) ≡ replicate m x
values_each values x n zero one = refl
values_each values x n (suc m) one = ap₂ (λ a b. a ++ b) one (values_each values x n m one)

-- a new value many times
pub pushed_all : {X : Type 0} (values : List X) (x : X) (is : List ℕ) (n m : ℕ) → n ≡ length values → AreBelow (length values) is → values_at (values ++ x ∷ []) (is ++ replicate m n) ≡ values_at values is ++ replicate m x
pushed_all values x is n m last h =
    values_append (values ++ x ∷ []) is (replicate m n)
    ∙ ap₂ (λ a b. a ++ b) (values_more values x is h) (values_each (values ++ x ∷ []) x n m (ap (λ k. take 1 (drop k (values ++ x ∷ []))) last ∙ one_at (values ++ x ∷ []) (length values) x (newest values x)))

-- what is read at an index
pub read_at : {X : Type 0} (values : List X) (k : ℕ) (x : X) → k < length values → x ≡ get_or values k x → slice_get values k ≡ Some x
read_at [] k x lt is = absurd (omega arith)
read_at (v ∷ values) zero x lt is = ap Some (sym is)
read_at (v ∷ values) (suc k) x lt is = read_at values k x (omega arith) is
