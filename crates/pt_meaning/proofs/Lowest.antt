-- Bits, 64 in a word: the lowest that is set.
use Rattle.std.proofs.Common.{◌≡◌, ℕ, ◌+◌, ◌*◌, ◌/◌, ◌%◌, ◌<◌, ◌≤◌, ◌⊎◌, List, length, slice_index_or, sym, ap, ◌∙◌, ⊎_elim, arith}
use Rattle.std.specs.Int.{bit_at}
use Rattle.std.proofs.lemmas.List.{get_or_past}
use Rattle.std.proofs.lemmas.Nat.Bits.{bit_at-zero}
use Rattle.pt_causality.specs.Before.{bit_of}
use Rattle.pt_causality.proofs.Marks.{at_word}
use Rattle.pt_meaning.specs.Ready.{IsFirstBit, IsFirstSet}

below_or : (n m : ℕ) → (n < m) ⊎ (m ≤ n)
below_or n m = grind arith

-- the lowest bit of the first word that has one is the first
pub first_here : (words : List ℕ) (index word bit : ℕ) → word ≡ slice_index_or words index 0 → IsFirstBit word bit → ((n : ℕ) → n < 64 * index → bit_of words n ≡ 0) → IsFirstSet words (64 * index + bit)
first_here words index word bit is here none = record {
  set = at_word words (64 * index + bit) index bit here.low (omega arith) ∙ ap (λ w. bit_at w bit) (sym is) ∙ here.set;
  first = λ n less. ⊎_elim
      (λ (l : n < 64 * index). none n l)
      (λ (m : 64 * index ≤ n). let low = here.low in let i : n % 64 < bit = omega (arith, less, m, low) in
      at_word words n index (n % 64) (omega arith) (omega (arith, less, m, low)) ∙ ap (λ w. bit_at w (n % 64)) (sym is) ∙ here.first (n % 64) i)
      (below_or n (64 * index));
}

-- a word without a bit leaves none up to the next one
pub none_here : (words : List ℕ) (index word : ℕ) → word ≡ slice_index_or words index 0 → word ≡ 0 → ((n : ℕ) → n < 64 * index → bit_of words n ≡ 0) → (n : ℕ) → n < 64 * (index + 1) → bit_of words n ≡ 0
none_here words index word is zero none n less = ⊎_elim
    (λ (l : n < 64 * index). none n l)
    (λ (m : 64 * index ≤ n). at_word words n index (n % 64) (omega arith) (omega (arith, less, m)) ∙ ap (λ w. bit_at w (n % 64)) (sym is ∙ zero) ∙ bit_at-zero (n % 64))
    (below_or n (64 * index))

-- past the words no bit is set
pub none_set : (words : List ℕ) → ((n : ℕ) → n < 64 * length words → bit_of words n ≡ 0) → (n : ℕ) → bit_of words n ≡ 0
none_set words none n = ⊎_elim
    (λ (l : n < 64 * length words). none n l)
    (λ (m : 64 * length words ≤ n). ap (λ w. bit_at w (n % 64)) (get_or_past words (n / 64) 0 (omega (arith, m))) ∙ bit_at-zero (n % 64))
    (below_or n (64 * length words))
