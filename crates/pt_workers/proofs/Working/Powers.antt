-- m powers of two add up to 2 ^ m - 1 only if each of 2 ^ 0 to 2 ^ (m - 1) is among them.
use Rattle.std.proofs.Common.{◌≡◌, ℕ, zero, suc, ◌+◌, ◌*◌, ◌^◌, ◌-◌, ◌<◌, ◌≤◌, List, [], ◌∷◌, ◌++◌, length, refl, ap, arith, zero-le}
use Rattle.std.proofs.Math.Nat.{pow-suc}
use Rattle.pt_workers.specs.Working.Orders.{order_weight, Among}

zeros : List ℕ → ℕ
zeros [] = 0
zeros (zero ∷ xs) = suc (zeros xs)
zeros (suc x ∷ xs) = zeros xs

-- the numbers that are not 0, each less by one
ups : List ℕ → List ℕ
ups [] = []
ups (zero ∷ xs) = ups xs
ups (suc x ∷ xs) = x ∷ ups xs

length-ups : (xs : List ℕ) → length xs ≡ zeros xs + length (ups xs)
unfolding zeros ups
length-ups [] = refl
length-ups (zero ∷ xs) = omega (arith, length-ups xs)
length-ups (suc x ∷ xs) = omega (arith, length-ups xs)

weight-ups : (xs : List ℕ) → order_weight xs ≡ zeros xs + 2 * order_weight (ups xs)
unfolding zeros ups
weight-ups [] = refl
weight-ups (zero ∷ xs) = omega (arith, weight-ups xs)
weight-ups (suc x ∷ xs) = omega (arith, weight-ups xs, pow-suc 2 x)

-- fewer than k powers and units never add up to 2 ^ k - 1
at_least : (k e : ℕ) (xs : List ℕ) → e + order_weight xs + 1 ≡ 2 ^ k → k ≤ e + length xs
at_least zero e xs h = zero-le
at_least (suc k) e xs h =
    let U = order_weight (ups xs) in
    let P = 2 ^ k in
    let p = pow-suc 2 k in
    let low : U < P = omega (arith, weight-ups xs) in
    let h' : (P - U - 1) + U + 1 ≡ P = omega arith in
    let ih = at_least k (P - U - 1) (ups xs) h' in
    omega (arith, weight-ups xs, length-ups xs)

one_zero : (k : ℕ) (xs : List ℕ) → order_weight xs + 1 ≡ 2 ^ suc k → length xs ≡ suc k → zeros xs ≡ 1
one_zero k xs h n =
    let U = order_weight (ups xs) in
    let P = 2 ^ k in
    let p = pow-suc 2 k in
    let low : U < P = omega (arith, weight-ups xs) in
    let h' : (P - U - 1) + U + 1 ≡ P = omega arith in
    let ih = at_least k (P - U - 1) (ups xs) h' in
    omega (arith, weight-ups xs, length-ups xs)

later : (w x : ℕ) (xs : List ℕ) → Among w xs → Among w (x ∷ xs)
later w x xs a = (suc a.0, omega (arith, a.1), a.2)

zero_among : (xs : List ℕ) → 0 < zeros xs → Among 0 xs
unfolding zeros
zero_among [] h = absurd (omega arith)
zero_among (zero ∷ xs) h = (0, omega arith, λ d. refl)
zero_among (suc x ∷ xs) h = later 0 (suc x) xs (zero_among xs h)

suc_among : (w : ℕ) (xs : List ℕ) → Among w (ups xs) → Among (suc w) xs
unfolding ups
suc_among w [] a = absurd (omega (arith, a.1))
suc_among w (zero ∷ xs) a = later (suc w) 0 xs (suc_among w xs a)
suc_among w (suc x ∷ xs) (zero, lt, is) = (0, omega arith, λ d. ap suc (is 0))
suc_among w (suc x ∷ xs) (suc i, lt, is) = later (suc w) (suc x) xs (suc_among w xs (i, omega (arith, lt), is))

pub each_among : (m : ℕ) (xs : List ℕ) → order_weight xs + 1 ≡ 2 ^ m → length xs ≡ m → (w : ℕ) → w < m → Among w xs
each_among zero xs h n w low = absurd (omega arith)
each_among (suc k) xs h n zero low = zero_among xs (omega (arith, one_zero k xs h n))
each_among (suc k) xs h n (suc w) low =
    let one = one_zero k xs h n in
    suc_among w xs (each_among k (ups xs) (omega (arith, weight-ups xs, pow-suc 2 k)) (omega (arith, length-ups xs)) w (omega arith))

pub weight-snoc : (xs : List ℕ) (x : ℕ) → order_weight (xs ++ x ∷ []) ≡ order_weight xs + 2 ^ x
weight-snoc [] x = omega arith
weight-snoc (y ∷ ys) x = omega (arith, weight-snoc ys x)
