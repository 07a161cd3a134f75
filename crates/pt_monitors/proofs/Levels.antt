-- Turns of which it is known that no messages were sent after them.
use Rattle.std.proofs.Common.{◌≡◌, ℕ, ◌+◌, ◌-◌, ◌*◌, ◌/◌, ◌%◌, ◌^◌, ◌<◌, ◌≤◌, sym, ap, ◌∙◌, arith}
use Rattle.std.proofs.Math.Nat.{div-div-eq-div-mul}
use Rattle.std.specs.Int.{bit_at}
use Rattle.std.proofs.lemmas.Nat.{pow-add}
use Rattle.std.proofs.lemmas.Nat.Bits.{bit_at-zero}
use Rattle.pt_history.specs.declared.levels.Levels.{Levels}
use Rattle.pt_history.specs.Levels.{IsLevel}

-- the bit of an item behind the one by whose number the bits are shifted
shifted : (bits a i : ℕ) → bit_at (bits / 2 ^ a / 2) i ≡ bits / 2 ^ (a + i) / 2 % 2
shifted bits a i =
    let x = bits / 2 ^ a in
    let same : 2 * 2 ^ i ≡ 2 ^ i * 2 = omega arith in
    ap (λ n. n % 2)
    (div-div-eq-div-mul x 2 (2 ^ i)
    ∙ ap (λ p. x / p) same
    ∙ sym (div-div-eq-div-mul x (2 ^ i) 2)
    ∙ ap (λ n. n / 2) (div-div-eq-div-mul bits (2 ^ a) (2 ^ i) ∙ ap (λ p. bits / p) (sym (pow-add 2 a i))))

level_by : (levels : Levels) (from end n : ℕ) → end ≤ 64 * (from / 64) + 64 → end ≤ levels.limit → from ≤ n → n < end → bit_at (levels.bits / 2 ^ (from % 64) / 2) (n - from) ≡ 0 → IsLevel levels n
level_by levels from end n block limit after before zero =
    let place : from % 64 + (n - from) ≡ n % 64 = omega (arith, block, after, before) in
    record {
      within = omega (arith, limit, before);
      bit = ap (λ k. levels.bits / 2 ^ k / 2 % 2) (sym place) ∙ sym (shifted levels.bits (from % 64) (n - from)) ∙ zero;
    }

-- all items of the block from `from` on, if no bit is left
pub level_zero : (levels : Levels) (from end n : ℕ) → end ≤ 64 * (from / 64) + 64 → end ≤ levels.limit → levels.bits / 2 ^ (from % 64) / 2 ≡ 0 → from ≤ n → n < end → IsLevel levels n
level_zero levels from end n block limit zero after before =
    level_by levels from end n block limit after before (ap (λ w. bit_at w (n - from)) zero ∙ bit_at-zero (n - from))

-- and those before the lowest bit that is left
pub level_at : (levels : Levels) (from end k n : ℕ) → end ≤ 64 * (from / 64) + 64 → end ≤ levels.limit → ((i : ℕ) → i < k → bit_at (levels.bits / 2 ^ (from % 64) / 2) i ≡ 0) → from ≤ n → n < end → n < from + k → IsLevel levels n
level_at levels from end k n block limit zeros after before less = level_by levels from end n block limit after before (zeros (n - from) (omega (arith, after, less)))

-- but not the one at a bit that is left
pub unknown_at : (levels : Levels) (from end k n : ℕ) → end ≤ 64 * (from / 64) + 64 → bit_at (levels.bits / 2 ^ (from % 64) / 2) k ≡ 1 → n ≡ from + k → n < end → IsLevel levels n → ⊥
unknown_at levels from end k n block one is before level =
    let place : from % 64 + k ≡ n % 64 = omega (arith, block, is, before) in
    let bit : levels.bits / 2 ^ (from % 64 + k) / 2 % 2 ≡ 1 = sym (shifted levels.bits (from % 64) k) ∙ one in
    let zero : levels.bits / 2 ^ (from % 64 + k) / 2 % 2 ≡ 0 = ap (λ p. levels.bits / 2 ^ p / 2 % 2) place ∙ level.bit in
    absurd (omega (arith, bit, zero))
