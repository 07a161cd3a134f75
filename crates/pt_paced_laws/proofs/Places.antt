-- Numbers of platforms in a round that goes on from platform i over n platforms.
use Rattle.std.proofs.Common.{◌≡◌, ◌≢◌, ℕ, suc, ◌+◌, ◌<◌, ◌≤◌, arith}

pub none_left : (i j : ℕ) → i ≤ j → j < 0 + i → ⊥
none_left i j from below = omega (arith, from, below)

pub is_later : (i j : ℕ) → i ≤ j → j ≢ i → suc i ≤ j
is_later i j from other = omega (arith, from, other)

pub one_fewer : (n i j : ℕ) → j < suc n + i → j < n + suc i
one_fewer n i j below = omega (arith, below)

-- of the next platform, p
pub is_first : (i p n : ℕ) → p ≡ i → p < suc n + i
is_first i p n e = omega (arith, e)

pub is_passed : (p i : ℕ) → p ≡ i → p < suc i
is_passed p i e = omega (arith, e)

pub not_before : (p i : ℕ) → p ≡ i → i ≤ p
not_before p i e = omega (arith, e)

-- of a platform after it, or before it
pub is_above : (j i p : ℕ) → suc i ≤ j → j ≡ p → p ≡ i → ⊥
is_above j i p after same e = omega (arith, after, same, e)

pub is_below : (j i p : ℕ) → j < i → j ≡ p → p ≡ i → ⊥
is_below j i p before same e = omega (arith, before, same, e)
