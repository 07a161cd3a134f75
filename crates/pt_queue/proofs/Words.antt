-- Bits, 64 in a word: the highest of a word, and those that words share.
use Rattle.std.proofs.Common.{◌≡◌, ◌≢◌, ℕ, ◌+◌, ◌-◌, ◌*◌, ◌/◌, ◌%◌, ◌^◌, ◌<◌, ◌≤◌, ◌⊎◌, List, length, max, slice_index_or, sym, ap, ◌∙◌, ⊎_elim, arith}
use Rattle.std.specs.Int.{bit_at}
use Rattle.std.specs.Int.RustNames.{bit_and, bit_or}
use Rattle.std.proofs.lemmas.Nat.Bits.{bit_at_above, bit_at_cat_low, bit_at_or}

below_or : (n m : ℕ) → (n < m) ⊎ (m ≤ n)
below_or n m = grind arith

-- the bits of a word whose highest bit is k, without that bit

pub top_below : (word k i : ℕ) → 2 ^ k ≤ word → word < 2 ^ (k + 1) → i < k → bit_at word i ≡ bit_at (word - 2 ^ k) i
top_below word k i le less l =
    let parts : word ≡ 1 * 2 ^ k + (word - 2 ^ k) = omega (arith, le) in
    ap (λ w. bit_at w i) parts ∙ bit_at_cat_low 1 k (word - 2 ^ k) i l

pub top_above : (word k i : ℕ) → word < 2 ^ (k + 1) → k < i → bit_at word i ≡ 0
top_above word k i less l = bit_at_above word (k + 1) i less (omega (arith, l))

-- words that share no bit before the word of a place and behind it, and none there but that of the place
pub shares_none_at : (marks before : List ℕ) (from own end place : ℕ)
    → ((n i : ℕ) → from ≤ n → n < own → bit_at (bit_and (slice_index_or marks n 0) (slice_index_or before n 0)) i ≡ 0)
    → ((n i : ℕ) → own + 1 ≤ n → n < end → bit_at (bit_and (slice_index_or marks n 0) (slice_index_or before n 0)) i ≡ 0)
    → end ≤ length before → own ≡ place / 64 → ((i : ℕ) → i ≢ place % 64 → bit_at (bit_and (slice_index_or marks own 0) (slice_index_or before own 0)) i ≡ 0)
    → (n : ℕ) → from ≤ n / 64 → n / 64 < end → n ≢ place → (n / 64 < length before) × (bit_at (bit_and (slice_index_or marks (n / 64) 0) (slice_index_or before (n / 64) 0)) (n % 64) ≡ 0)
shares_none_at marks before from own end place low high few is mine n le up ne = (
  omega (arith, up, few),
  ⊎_elim
      (λ (l : n / 64 < own). low (n / 64) (n % 64) le l)
      (λ (m : own ≤ n / 64). ⊎_elim
      (λ (l : own < n / 64). high (n / 64) (n % 64) (omega (arith, l)) up)
      (λ (o : n / 64 ≤ own).
      let e : n / 64 ≡ own = omega (arith, m, o) in
      ap (λ k. bit_at (bit_and (slice_index_or marks k 0) (slice_index_or before k 0)) (n % 64)) e ∙ mine (n % 64) (apart e))
      (below_or own (n / 64)))
      (below_or (n / 64) own),
)
  where
    apart : n / 64 ≡ own → n % 64 ≢ place % 64
    apart e same = ne (omega (arith, e, is, same))

-- where no bit is set in two joined words, none is in either
pub joined_clear : (a b i : ℕ) → bit_at (bit_or a b) i ≡ 0 → (bit_at a i ≡ 0) × (bit_at b i ≡ 0)
joined_clear a b i h = by (bit_at a i) (bit_at b i) (sym (bit_at_or a b i) ∙ h)
  where
    by : (m n : ℕ) → max m n ≡ 0 → (m ≡ 0) × (n ≡ 0)
    by m n h = grind arith

-- the bits that words share, with those of one word more
pub shares_more : (marks before : List ℕ) (from index any more : ℕ)
    → ((n i : ℕ) → from ≤ n → n < index → bit_at any i ≡ 0 → bit_at (bit_and (slice_index_or marks n 0) (slice_index_or before n 0)) i ≡ 0)
    → more ≡ bit_or any (bit_and (slice_index_or marks index 0) (slice_index_or before index 0))
    → (n i : ℕ) → from ≤ n → n < index + 1 → bit_at more i ≡ 0 → bit_at (bit_and (slice_index_or marks n 0) (slice_index_or before n 0)) i ≡ 0
shares_more marks before from index any more old is n i le less clear =
    let both = joined_clear any (bit_and (slice_index_or marks index 0) (slice_index_or before index 0)) i (ap (λ w. bit_at w i) (sym is) ∙ clear) in
    ⊎_elim
    (λ (l : n < index). old n i le l both.0)
    (λ (m : index ≤ n). let e : n ≡ index = omega (arith, m, less) in ap (λ k. bit_at (bit_and (slice_index_or marks k 0) (slice_index_or before k 0)) i) e ∙ both.1)
    (below_or n index)
