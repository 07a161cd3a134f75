-- Bits, 64 in a word: one that is set or cleared.
use Rattle.std.proofs.Common.{◌≡◌, ◌≢◌, ℕ, ◌+◌, ◌*◌, ◌/◌, ◌%◌, ◌^◌, ◌<◌, ◌≤◌, ◌⊎◌, List, length, slice_index_or, slice_set, sym, ap, ◌∙◌, ⊎_elim, arith}
use Rattle.std.specs.Int.{bit_at, bit_not, w64}
use Rattle.std.specs.Int.RustNames.{bit_and, bit_or}
use Rattle.std.proofs.lemmas.List.{get_or-set_same, get_or-set_other, get_or_past, length-set}
use Rattle.std.proofs.lemmas.Nat.Bits.{bit_at_clear_other, bit_at_clear_same, bit_at_set_same, bit_at_set_other, bit_at-zero}
use Rattle.pt_types.specs.declared.graph.Unit.{Unit}
use Rattle.pt_causality.specs.Before.{bit_of, MayHave}

either : (n m : ℕ) → (n ≡ m) ⊎ (n ≢ m)
either n m = grind arith

-- the words with bit n set
abbrev pub with_bit : List ℕ → ℕ → List ℕ
with_bit words n = slice_set words (n / 64) (bit_or (slice_index_or words (n / 64) 0) (1 * 2 ^ (n % 64) % 2 ^ 64))

in_word : (n : ℕ) → n % 64 < 64
in_word n = omega arith

pub set_here : (words : List ℕ) (n : ℕ) → n / 64 < length words → bit_of (with_bit words n) n ≡ 1
set_here words n l =
    ap (λ w. bit_at w (n % 64)) (get_or-set_same words (n / 64) (bit_or (slice_index_or words (n / 64) 0) (1 * 2 ^ (n % 64) % 2 ^ 64)) 0 l)
    ∙ bit_at_set_same w64 (slice_index_or words (n / 64) 0) (n % 64) (in_word n)

pub set_other : (words : List ℕ) (n m : ℕ) → n / 64 < length words → m ≢ n → bit_of (with_bit words n) m ≡ bit_of words m
set_other words n m l ne = ⊎_elim
    (λ (e : m / 64 ≡ n / 64).
    ap (λ k. bit_at (slice_index_or (with_bit words n) k 0) (m % 64)) e
    ∙ ap (λ w. bit_at w (m % 64)) (get_or-set_same words (n / 64) (bit_or (slice_index_or words (n / 64) 0) (1 * 2 ^ (n % 64) % 2 ^ 64)) 0 l)
    ∙ bit_at_set_other w64 (slice_index_or words (n / 64) 0) (n % 64) (in_word n) (m % 64) (apart e)
    ∙ sym (ap (λ k. bit_at (slice_index_or words k 0) (m % 64)) e))
    (λ (d : m / 64 ≢ n / 64). ap (λ w. bit_at w (m % 64)) (get_or-set_other words (n / 64) (m / 64) (bit_or (slice_index_or words (n / 64) 0) (1 * 2 ^ (n % 64) % 2 ^ 64)) 0 d))
    (either (m / 64) (n / 64))
  where
    apart : m / 64 ≡ n / 64 → m % 64 ≢ n % 64
    apart e same = ne (omega (arith, e, same))

-- the words with bit n cleared
abbrev pub without_bit : List ℕ → ℕ → List ℕ
without_bit words n = slice_set words (n / 64) (bit_and (slice_index_or words (n / 64) 0) (bit_not w64 (1 * 2 ^ (n % 64) % 2 ^ 64)))

pub clear_here : (words : List ℕ) (n : ℕ) → n / 64 < length words → bit_of (without_bit words n) n ≡ 0
clear_here words n l =
    ap (λ w. bit_at w (n % 64)) (get_or-set_same words (n / 64) (bit_and (slice_index_or words (n / 64) 0) (bit_not w64 (1 * 2 ^ (n % 64) % 2 ^ 64))) 0 l)
    ∙ bit_at_clear_same w64 (slice_index_or words (n / 64) 0) (n % 64) (in_word n)

pub clear_other : (words : List ℕ) (n m : ℕ) → n / 64 < length words → m ≢ n → bit_of (without_bit words n) m ≡ bit_of words m
clear_other words n m l ne = ⊎_elim
    (λ (e : m / 64 ≡ n / 64).
    ap (λ k. bit_at (slice_index_or (without_bit words n) k 0) (m % 64)) e
    ∙ ap (λ w. bit_at w (m % 64)) (get_or-set_same words (n / 64) (bit_and (slice_index_or words (n / 64) 0) (bit_not w64 (1 * 2 ^ (n % 64) % 2 ^ 64))) 0 l)
    ∙ bit_at_clear_other w64 (slice_index_or words (n / 64) 0) (n % 64) (in_word n) (m % 64) (in_word m) (apart e)
    ∙ sym (ap (λ k. bit_at (slice_index_or words k 0) (m % 64)) e))
    (λ (d : m / 64 ≢ n / 64). ap (λ w. bit_at w (m % 64)) (get_or-set_other words (n / 64) (m / 64) (bit_and (slice_index_or words (n / 64) 0) (bit_not w64 (1 * 2 ^ (n % 64) % 2 ^ 64))) 0 d))
    (either (m / 64) (n / 64))
  where
    apart : m / 64 ≡ n / 64 → m % 64 ≢ n % 64
    apart e same = ne (omega (arith, e, same))

-- bit n is that of its word
pub at_word : (words : List ℕ) (n index i : ℕ) → i < 64 → n ≡ 64 * index + i → bit_of words n ≡ bit_at (slice_index_or words index 0) i
at_word words n index i l is =
    let word : n / 64 ≡ index = omega (arith, l, is) in
    let bit : n % 64 ≡ i = omega (arith, l, is) in
    ap (λ k. bit_at (slice_index_or words k 0) (n % 64)) word ∙ ap (bit_at (slice_index_or words index 0)) bit

-- past the words no bit is set
pub past_words : (words : List ℕ) (n : ℕ) → length words ≤ n / 64 → bit_of words n ≡ 0
past_words words n l = ap (λ w. bit_at w (n % 64)) (get_or_past words (n / 64) 0 l) ∙ bit_at-zero (n % 64)

-- a unit was added
module _ (words new : List ℕ) (u : Unit) (is : new ≡ with_bit words (8 * u.actor + u.group)) (l : (8 * u.actor + u.group) / 64 < length words) where
  pub added_itself : MayHave new u
  added_itself few within = ap (λ ws. bit_of ws (8 * u.actor + u.group)) is ∙ set_here words (8 * u.actor + u.group) l

  pub added_other : (x : Unit) → MayHave words x → MayHave new x
  added_other x h few within = ap (λ ws. bit_of ws (8 * x.actor + x.group)) is ∙ ⊎_elim
      (λ (e : 8 * x.actor + x.group ≡ 8 * u.actor + u.group). ap (bit_of (with_bit words (8 * u.actor + u.group))) e ∙ set_here words (8 * u.actor + u.group) l)
      (λ (ne : 8 * x.actor + x.group ≢ 8 * u.actor + u.group). set_other words (8 * u.actor + u.group) (8 * x.actor + x.group) l ne ∙ h few (omega (arith, within, ap length is, length-set words ((8 * u.actor + u.group) / 64) (bit_or (slice_index_or words ((8 * u.actor + u.group) / 64) 0) (1 * 2 ^ ((8 * u.actor + u.group) % 64) % 2 ^ 64)))))
      (either (8 * x.actor + x.group) (8 * u.actor + u.group))
