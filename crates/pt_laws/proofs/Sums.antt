-- Sums over the numbers below another.
use Rattle.std.proofs.Common.{◌≡◌, ℕ, zero, suc, ◌+◌, ◌<◌, ◌≤◌, ◌≢◌, arith, refl, sym, ap₂, subst, ⊎_elim}
use Rattle.std.proofs.lemmas.Bool.{cases_lt}
use Rattle.pt_semantics.specs.Counts.{sum_below}
use Rattle.pt_laws.proofs.Onward.{cases_same}

pub sum_same : (f h : ℕ → ℕ) (n : ℕ) → ((k : ℕ) → k < n → f k ≡ h k) → sum_below f n ≡ sum_below h n
sum_same f h zero e = refl
sum_same f h (suc n) e = ap₂ (λ a b. a + b) (e n (omega arith)) (sum_same f h n (λ k l. e k (omega (arith, l))))

pub sum_nothing : (f : ℕ → ℕ) (n : ℕ) → ((k : ℕ) → f k ≡ 0) → sum_below f n ≡ 0
sum_nothing f zero e = refl
sum_nothing f (suc n) e = ap₂ (λ a b. a + b) (e n) (sum_nothing f n e)

pub sum_le : (f h : ℕ → ℕ) (n : ℕ) → ((k : ℕ) → f k ≤ h k) → sum_below f n ≤ sum_below h n
sum_le f h zero e = omega arith
sum_le f h (suc n) e =
    let here : f n ≤ h n = e n in
    let rest : sum_below f n ≤ sum_below h n = sum_le f h n e in
    omega (arith, here, rest)

pub sum_lt : (f h : ℕ → ℕ) (n j : ℕ) → ((k : ℕ) → f k ≤ h k) → j < n → f j < h j → sum_below f n < sum_below h n
sum_lt f h zero j e l more = absurd (omega (arith, l))
sum_lt f h (suc n) j e l more =
    ⊎_elim
    (λ (same : j ≡ n).
    let here : f n < h n = subst (λ k. f k < h k) same more in
    let rest : sum_below f n ≤ sum_below h n = sum_le f h n e in
    omega (arith, here, rest))
    (λ (other : j ≢ n).
    let here : f n ≤ h n = e n in
    let rest : sum_below f n < sum_below h n = sum_lt f h n j e (less j n l other) more in
    omega (arith, here, rest))
    (cases_same j n)
  where
    less : (j n : ℕ) → j < suc n → j ≢ n → j < n
    less j n l other = ⊎_elim (λ (k : j < n). k) (λ (k : n ≤ j). absurd (other (omega (arith, k, l)))) (cases_lt j n)

pub sum_one : (f h : ℕ → ℕ) (n j : ℕ) → ((k : ℕ) → k ≢ j → h k ≡ f k) → j < n → h j ≡ suc (f j) → sum_below h n ≡ suc (sum_below f n)
sum_one f h zero j e l more = absurd (omega (arith, l))
sum_one f h (suc n) j e l more =
    ⊎_elim
    (λ (same : j ≡ n).
    let here : h n ≡ suc (f n) = subst (λ k. h k ≡ suc (f k)) same more in
    let rest : sum_below h n ≡ sum_below f n = sum_same h f n (λ k lk. e k (λ eq. absurd (apart k n j lk same eq))) in
    omega (arith, here, rest))
    (λ (other : j ≢ n).
    let here : h n ≡ f n = e n (λ eq. other (sym eq)) in
    let rest : sum_below h n ≡ suc (sum_below f n) = sum_one f h n j e (less j n l other) more in
    omega (arith, here, rest))
    (cases_same j n)
  where
    less : (j n : ℕ) → j < suc n → j ≢ n → j < n
    less j n l other = ⊎_elim (λ (k : j < n). k) (λ (k : n ≤ j). absurd (other (omega (arith, k, l)))) (cases_lt j n)

    apart : (k n j : ℕ) → k < n → j ≡ n → k ≡ j → ⊥
    apart k n j l e d = omega (arith, l, e, d)
