-- Lists of which no two items have the same two numbers.
use Rattle.std.proofs.Common.{◌≡◌, ℕ, zero, suc, ◌+◌, ◌≤◌, Bool, true, false, cond, List, [], ◌∷◌, ◌++◌, length, map, slice_get, Option, Some, None, option_map, refl, sym, ap, ◌∙◌, arith, ◌⊎◌, inl, inr, ⊎_elim}
use Rattle.std.specs.List.{list_all, list_any, count_by}
use Rattle.std.proofs.lemmas.Bool.{and_parts, or_left, or_right}
use Rattle.std.proofs.lemmas.List.Sums.{sum_by-cons}
use Rattle.std.proofs.lemmas.Option.{slice_get-map}

-- items at different indexes differ in one of the two numbers
abbrev pub Once : {X : Type 0} → (X → ℕ) → (X → ℕ) → List X → Type 0
Once {X} f h xs = (i j : ℕ) (x y : X) → slice_get xs i ≡ Some x → slice_get xs j ≡ Some y → f x ≡ f y → h x ≡ h y → i ≡ j

pub some_is : {X : Type 0} (x y : X) → ◌≡◌ {A = Option X} (Some x) (Some y) → x ≡ y
some_is x y e = cc

pub once_cons : {X : Type 0} (f h : X → ℕ) (x : X) (xs : List X) → Once f h xs → ((j : ℕ) (y : X) → slice_get xs j ≡ Some y → f x ≡ f y → h x ≡ h y → ⊥) → Once f h (x ∷ xs)
once_cons f h x xs rest apart zero zero a b p q e d = refl
once_cons f h x xs rest apart zero (suc j) a b p q e d =
    let same = some_is x a p in
    absurd (apart j b q (ap f same ∙ e) (ap h same ∙ d))
once_cons f h x xs rest apart (suc i) zero a b p q e d =
    let same = some_is x b q in
    absurd (apart i a p (ap f same ∙ sym e) (ap h same ∙ sym d))
once_cons f h x xs rest apart (suc i) (suc j) a b p q e d = ap suc (rest i j a b p q e d)

one_more : (i n k : ℕ) → i ≡ n + k → suc i ≡ suc n + k
one_more i n k e = omega arith

-- an item of two lists joined stands in the one or in the other
pub in_either : {X : Type 0} (xs ys : List X) (i : ℕ) (x : X) → slice_get (xs ++ ys) i ≡ Some x → (slice_get xs i ≡ Some x) ⊎ ((k : ℕ) × (i ≡ length xs + k) × (slice_get ys k ≡ Some x))
in_either [] ys i x h = inr (i, omega arith, h)
in_either (y ∷ xs) ys zero x h = inl h
in_either (y ∷ xs) ys (suc i) x h = ⊎_elim (λ (e : slice_get xs i ≡ Some x). inl e) (λ (e : (k : ℕ) × (i ≡ length xs + k) × (slice_get ys k ≡ Some x)). inr (e.0, one_more i (length xs) e.0 e.1, e.2)) (in_either xs ys i x h)

pub once_append : {X : Type 0} (f h : X → ℕ) (xs ys : List X) → Once f h xs → Once f h ys → ((i j : ℕ) (x y : X) → slice_get xs i ≡ Some x → slice_get ys j ≡ Some y → f x ≡ f y → h x ≡ h y → ⊥) → Once f h (xs ++ ys)
once_append f h [] ys one other apart = other
once_append {X} f h (x ∷ xs) ys one other apart =
    once_cons f h x (xs ++ ys) (once_append f h xs ys (λ i j a b p q e d. below i j (one (suc i) (suc j) a b p q e d)) other (λ i j a b p q e d. apart (suc i) j a b p q e d))
    (λ j y p e d. ⊎_elim
    (λ (q : slice_get xs j ≡ Some y). differ j (one zero (suc j) x y refl q e d))
    (λ (q : (k : ℕ) × (j ≡ length xs + k) × (slice_get ys k ≡ Some y)). apart zero q.0 x y refl q.2 e d)
    (in_either xs ys j y p))
  where
    below : (i j : ℕ) → suc i ≡ suc j → i ≡ j
    below i j e = omega arith

    differ : (j : ℕ) → zero ≡ suc j → ⊥
    differ j e = absurd (omega arith)

some_mapped : {X Y : Type 0} (m : X → Y) (o : Option X) (y : Y) → option_map m o ≡ Some y → (x : X) × (o ≡ Some x) × (m x ≡ y)
some_mapped m (Some x) y h = (x, refl, some_is (m x) y h)
some_mapped m None y h = absurd cc

-- an item of a mapped list comes from one of the list
pub mapped_at : {X Y : Type 0} (m : X → Y) (xs : List X) (i : ℕ) (y : Y) → slice_get (map m xs) i ≡ Some y → (x : X) × (slice_get xs i ≡ Some x) × (m x ≡ y)
mapped_at m xs i y h = some_mapped m (slice_get xs i) y (sym (slice_get-map m xs i) ∙ h)

pub once_map : {X Y : Type 0} (m : X → Y) (f h : Y → ℕ) (xs : List X) → Once (λ x. f (m x)) (λ x. h (m x)) xs → Once f h (map m xs)
once_map m f h xs once i j a b p q e d =
    let one = mapped_at m xs i a p in
    let other = mapped_at m xs j b q in
    once i j one.0 other.0 one.1 other.1 (ap f one.2 ∙ e ∙ sym (ap f other.2)) (ap h one.2 ∙ d ∙ sym (ap h other.2))

pub all_at : {X : Type 0} (test : X → Bool) (xs : List X) (i : ℕ) (x : X) → list_all test xs ≡ true → slice_get xs i ≡ Some x → test x ≡ true
all_at test [] i x h e = absurd cc
all_at test (y ∷ xs) zero x h e = ap test (sym (some_is y x e)) ∙ (and_parts (test y) (list_all test xs) h).0
all_at test (y ∷ xs) (suc i) x h e = all_at test xs i x (and_parts (test y) (list_all test xs) h).1 e

pub any_at : {X : Type 0} (test : X → Bool) (xs : List X) (i : ℕ) (x : X) → slice_get xs i ≡ Some x → test x ≡ true → list_any test xs ≡ true
any_at test [] i x e h = absurd cc
any_at test (y ∷ xs) zero x e h = or_left (test y) (list_any test xs) (ap test (some_is y x e) ∙ h)
any_at test (y ∷ xs) (suc i) x e h = or_right (test y) (list_any test xs) (any_at test xs i x e h)

one_or_none : (b : Bool) → b ≡ true → ◌≡◌ {A = ℕ} (cond b 1 0) 1
one_or_none true h = refl
one_or_none false h = absurd cc

counted : {X : Type 0} (test : X → Bool) (xs : List X) (i : ℕ) (x : X) → slice_get xs i ≡ Some x → test x ≡ true → 1 ≤ count_by test xs
counted test [] i x e h = absurd cc
counted test (y ∷ xs) zero x e h =
    let here = one_or_none (test y) (ap test (some_is y x e) ∙ h) in
    let sum = sum_by-cons (λ z. cond (test z) 1 0) y xs in
    omega (arith, here, sum)
counted test (y ∷ xs) (suc i) x e h =
    let rest = counted test xs i x e h in
    let sum = sum_by-cons (λ z. cond (test z) 1 0) y xs in
    omega (arith, rest, sum)

-- of items that pass, of which there is at most one, any two are the same
pub counted_once : {X : Type 0} (test : X → Bool) (xs : List X) (i j : ℕ) (x y : X) → count_by test xs ≤ 1 → slice_get xs i ≡ Some x → slice_get xs j ≡ Some y → test x ≡ true → test y ≡ true → i ≡ j
counted_once test [] i j x y few p q h k = absurd cc
counted_once test (z ∷ xs) zero zero x y few p q h k = refl
counted_once test (z ∷ xs) zero (suc j) x y few p q h k =
    let here = one_or_none (test z) (ap test (some_is z x p) ∙ h) in
    let rest = counted test xs j y q k in
    let sum = sum_by-cons (λ w. cond (test w) 1 0) z xs in
    absurd (omega (arith, here, rest, sum))
counted_once test (z ∷ xs) (suc i) zero x y few p q h k =
    let here = one_or_none (test z) (ap test (some_is z y q) ∙ k) in
    let rest = counted test xs i x p h in
    let sum = sum_by-cons (λ w. cond (test w) 1 0) z xs in
    absurd (omega (arith, here, rest, sum))
counted_once test (z ∷ xs) (suc i) (suc j) x y few p q h k =
    let sum = sum_by-cons (λ w. cond (test w) 1 0) z xs in
    ap suc (counted_once test xs i j x y (omega (arith, sum)) p q h k)
