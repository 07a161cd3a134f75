-- Inputs of positions, and the bits of those that have a value.
use Rattle.std.proofs.Common.{◌≡◌, ◌≢◌, ℕ, zero, suc, ◌+◌, ◌/◌, ◌%◌, ◌^◌, ◌<◌, ◌≤◌, ◌⊎◌, Bool, true, false, List, [], ◌∷◌, Option, Some, None, ℤ, length, replicate, slice_index_or, slice_set, refl, sym, ap, subst, ◌∙◌, ⊎_elim, arith}
use Rattle.std.specs.Int.{bit_at}
use Rattle.std.proofs.lemmas.List.{get_or-replicate, get_or_past, get_or-set_same, get_or-set_other, length-replicate, length-set}
use Rattle.std.proofs.lemmas.Nat.Bits.{bit_at-zero}
use Rattle.pt_causality.specs.Before.{bit_of}
use Rattle.pt_types.specs.Ports.{eight, nothing}
use Rattle.pt_semantics.specs.Firing.{any_present}
use Rattle.pt_meaning.specs.Ready.{ports_at, bit_if, HaveReadyBits, IsFirstReady, IsFirstSet}

either : (n m : ℕ) → (n ≡ m) ⊎ (n ≢ m)
either n m = grind arith

below_or : (n m : ℕ) → (n < m) ⊎ (m ≤ n)
below_or n m = grind arith

set_then : (b : Bool) → bit_if b ≡ 1 → b ≡ true
set_then true h = refl
set_then false h = absurd (omega (arith, h))

clear_then : (b : Bool) → bit_if b ≡ 0 → b ≡ false
clear_then true h = absurd (omega (arith, h))
clear_then false h = refl

-- the first bit is that of the first position with a value
pub first_ready : (inputs : List (List (Option ℤ))) (ready : List ℕ) (k : ℕ) → HaveReadyBits inputs ready → IsFirstSet ready k → IsFirstReady inputs k
first_ready inputs ready k are first = record {
  there = set_then (any_present (ports_at inputs k)) (sym (are.bits k) ∙ first.set);
  first = λ n less. clear_then (any_present (ports_at inputs n)) (sym (are.bits n) ∙ first.first n less);
}

pub none_ready : (inputs : List (List (Option ℤ))) (ready : List ℕ) → HaveReadyBits inputs ready → ((n : ℕ) → bit_of ready n ≡ 0) → (n : ℕ) → any_present (ports_at inputs n) ≡ false
none_ready inputs ready are none n = clear_then (any_present (ports_at inputs n)) (sym (are.bits n) ∙ none n)

zeros : (n k : ℕ) → slice_index_or (replicate {A = ℕ} n 0) k 0 ≡ 0
zeros n k = ⊎_elim
    (λ (l : k < n). get_or-replicate {A = ℕ} n k 0 0 l)
    (λ (m : n ≤ k). get_or_past (replicate {A = ℕ} n 0) k 0 (omega (arith, m, length-replicate {A = ℕ} n 0)))
    (below_or k n)

empty_at : (n k : ℕ) → any_present (ports_at (replicate n (eight nothing)) k) ≡ false
empty_at n k = ⊎_elim
    (λ (l : k < n). ap any_present (get_or-replicate {A = List (Option ℤ)} n k (eight nothing) [] l))
    (λ (m : n ≤ k). ap any_present (get_or_past (replicate {A = List (Option ℤ)} n (eight nothing)) k [] (omega (arith, m, length-replicate {A = List (Option ℤ)} n (eight nothing)))))
    (below_or k n)

-- without values no bit is set
pub none_marked : (inputs : List (List (Option ℤ))) (ready : List ℕ) (count : ℕ) → count < 2 ^ 32 → inputs ≡ replicate count (eight nothing) → ready ≡ replicate (count / 64 + 1) 0 → HaveReadyBits inputs ready
none_marked inputs ready count small none clear = record {
  bits = λ n.
      ap (λ ws. bit_of ws n) clear ∙ ap (λ w. bit_at w (n % 64)) (zeros (count / 64 + 1) (n / 64)) ∙ bit_at-zero (n % 64)
      ∙ sym (ap (λ xs. bit_if (any_present (ports_at xs n))) none ∙ ap bit_if (empty_at count n));
  eight = λ n less. ap (λ xs. length (ports_at xs n)) none ∙ ap length (get_or-replicate {A = List (Option ℤ)} count n (eight nothing) [] (subst (λ k. n < k) len less));
  words = omega (arith, len, wide);
  few = omega (arith, small, wide);
}
  where
    len : length inputs ≡ count
    len = ap length none ∙ length-replicate {A = List (Option ℤ)} count (eight nothing)

    wide : length ready ≡ count / 64 + 1
    wide = ap length clear ∙ length-replicate {A = ℕ} (count / 64 + 1) 0

-- the inputs of a position were changed
pub changed : (inputs : List (List (Option ℤ))) (ready new : List ℕ) (k : ℕ) (ports : List (Option ℤ)) → HaveReadyBits inputs ready → k < length inputs → length ports ≡ 8
    → bit_of new k ≡ bit_if (any_present ports) → ((n : ℕ) → n ≢ k → bit_of new n ≡ bit_of ready n) → length new ≡ length ready → HaveReadyBits (slice_set inputs k ports) new
changed inputs ready new k ports are there wide here others len = record {
  bits = λ n. ⊎_elim
      (λ (e : n ≡ k). subst (λ m. bit_of new m ≡ bit_if (any_present (ports_at (slice_set inputs k ports) m))) (sym e) (here ∙ sym (ap (λ xs. bit_if (any_present xs)) (get_or-set_same inputs k ports [] there))))
      (λ (ne : n ≢ k). others n ne ∙ are.bits n ∙ sym (ap (λ xs. bit_if (any_present xs)) (get_or-set_other inputs k n ports [] ne)))
      (either n k);
  eight = λ n less. ⊎_elim
      (λ (e : n ≡ k). ap (λ m. length (ports_at (slice_set inputs k ports) m)) e ∙ ap length (get_or-set_same inputs k ports [] there) ∙ wide)
      (λ (ne : n ≢ k). ap length (get_or-set_other inputs k n ports [] ne) ∙ are.eight n (subst (λ m. n < m) (length-set inputs k ports) less))
      (either n k);
  words = let words = are.words in omega (arith, words, len, length-set inputs k ports);
  few = let few = are.few in omega (arith, few, len);
}

-- a value was put at an input
pub put_present : (ports : List (Option ℤ)) (p : ℕ) (v : ℤ) → p < length ports → any_present (slice_set ports p (Some v)) ≡ true
put_present [] p v less = absurd (omega (arith, less))
put_present (x ∷ ports) zero v less = refl
put_present (Some x ∷ ports) (suc p) v less = refl
put_present (None ∷ ports) (suc p) v less = put_present ports p v (omega (arith, less))
