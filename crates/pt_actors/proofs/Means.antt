-- The mean of two values of 64 bits is one.
use Rattle.std.proofs.Common.{◌≡◌, ℕ, suc, ◌+◌, ◌*◌, ◌-◌, ◌^◌, ◌/◌, ◌<◌, ◌≤◌, ℤ, pos, negsuc, ◌+ℤ◌, ◌-ℤ◌, ◌*ℤ◌, ◌≤ℤ◌, neg_ℤ, int_div, FitsSigned, w64, arith}
use Rattle.std.proofs.lemmas.Int.{ints}
use Rattle.std.proofs.lemmas.Nat.{div_below}
use Rattle.std.proofs.Math.Nat.{mul-le-mul_right}
use Rattle.std.proofs.Math.IntN.{pos-*ℤ-pos, negsuc-*ℤ-pos}
use Rattle.pt_actors.specs.Means.{HasMean}

-- the product of a value of 64 bits and n is between - 2 ^ 63 * n and (2 ^ 63 - 1) * n
pub at_most : (a : ℤ) (n : ℕ) → FitsSigned w64 a → (a *ℤ pos n) ≤ℤ pos ((2 ^ 63 - 1) * n)
at_most (pos x) n h = rw pos-*ℤ-pos (let e : x * n ≤ (2 ^ 63 - 1) * n = mul-le-mul_right n (omega (arith, ints)) in omega (arith, ints))
at_most (negsuc x) n h = rw negsuc-*ℤ-pos (omega (arith, ints))

pub at_least : (a : ℤ) (n : ℕ) → FitsSigned w64 a → neg_ℤ (pos (2 ^ 63 * n)) ≤ℤ (a *ℤ pos n)
at_least (pos x) n h = rw pos-*ℤ-pos (omega (arith, ints))
at_least (negsuc x) n h = rw negsuc-*ℤ-pos (let e : suc x * n ≤ 2 ^ 63 * n = mul-le-mul_right n (omega (arith, ints)) in omega (arith, ints))

pub quotient_fits : (z : ℤ) (d : ℕ) → 1 ≤ d → neg_ℤ (pos (2 ^ 63 * d)) ≤ℤ z → z ≤ℤ pos ((2 ^ 63 - 1) * d) → FitsSigned w64 (int_div z (pos d))
quotient_fits (pos x) d one low high =
    let e : x / d < 2 ^ 63 = div_below x d (2 ^ 63) one (omega (arith, ints)) in
    omega (arith, ints)
quotient_fits (negsuc x) d one low high =
    let e : suc x / d < 2 ^ 63 + 1 = div_below (suc x) d (2 ^ 63 + 1) one (omega (arith, ints)) in
    omega (arith, ints)

bounded_mean : (x y : ℤ) (n m d : ℕ) → FitsSigned w64 (pos d) → n + m ≡ d → 1 ≤ d → x ≤ℤ pos ((2 ^ 63 - 1) * n) → y ≤ℤ pos ((2 ^ 63 - 1) * m)
    → neg_ℤ (pos (2 ^ 63 * n)) ≤ℤ x → neg_ℤ (pos (2 ^ 63 * m)) ≤ℤ y → HasMean x y (pos d)
bounded_mean x y n m d fd whole one h i j k =
    let high : (x +ℤ y) ≤ℤ pos ((2 ^ 63 - 1) * d) = omega (arith, ints) in
    let low : neg_ℤ (pos (2 ^ 63 * d)) ≤ℤ (x +ℤ y) = omega (arith, ints) in
    record { sum = omega (arith, ints); positive = omega (arith, ints); mean = quotient_fits _ d one low high }

sum_has_mean : (a b : ℤ) (n m d : ℕ) → FitsSigned w64 a → FitsSigned w64 b → FitsSigned w64 (pos d) → n + m ≡ d → 1 ≤ d → HasMean (a *ℤ pos n) (b *ℤ pos m) (pos d)
sum_has_mean a b n m d fa fb fd whole one = bounded_mean _ _ n m d fd whole one (at_most a n fa) (at_most b m fb) (at_least a n fa) (at_least b m fb)

pub has_mean : (a b num rest den : ℤ) → FitsSigned w64 a → FitsSigned w64 b → FitsSigned w64 den → pos 0 ≤ℤ num → num ≤ℤ den → pos 1 ≤ℤ den → rest ≡ den -ℤ num → HasMean (a *ℤ num) (b *ℤ rest) den
has_mean a b (pos n) (pos m) (pos d) fa fb fd low high one e = sum_has_mean a b n m d fa fb fd (omega (arith, ints)) (omega (arith, ints))
has_mean a b (pos n) (negsuc m) (pos d) fa fb fd low high one e = absurd (omega (arith, ints))
has_mean a b (negsuc n) rest den fa fb fd low high one e = absurd (omega (arith, ints))
has_mean a b (pos n) rest (negsuc d) fa fb fd low high one e = absurd (omega (arith, ints))
