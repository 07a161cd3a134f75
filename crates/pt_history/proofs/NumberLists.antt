-- Numbers of which the first ones are in order: how many, one more, and the number at an index.
use Rattle.std.proofs.Common.{◌≡◌, ℕ, zero, suc, ◌+◌, ◌-◌, ◌<◌, ◌≤◌, Some, List, [], ◌∷◌, ◌++◌, append-nil, refl, sym, ap, ap₂, ◌∙◌, arith, length, length-append, get_or}
use Rattle.std.specs.Prelude.{slice_get}
use Rattle.std.proofs.lemmas.List.{get_or-append_right, get_or_append_left}
use Rattle.std.proofs.lemmas.Option.{slice_get-get_or}
use Rattle.pt_history.specs.Numbers.{numbers_from, numbers_with}

-- numbers in a row
pub length-from : (k n : ℕ) → length (numbers_from k n) ≡ n
length-from k zero = refl
length-from k (suc n) = ap suc (length-from (k + 1) n)

from_next : (k n : ℕ) → numbers_from k (suc n) ≡ numbers_from k n ++ (k + n) ∷ []
from_next k zero = ap (λ i. i ∷ []) (omega arith)
from_next k (suc n) =
    let next : k + 1 + n ≡ k + suc n = omega arith in
    ap (λ l. k ∷ l) (from_next (k + 1) n ∙ ap (λ i. numbers_from (k + 1) n ++ i ∷ []) next)

pub from_more : (k n : ℕ) → numbers_from k (n + 1) ≡ numbers_from k n ++ (k + n) ∷ []
from_more k n = let more : n + 1 ≡ suc n = omega arith in ap (numbers_from k) more ∙ from_next k n

from_get : (k n i : ℕ) → i < n → get_or (numbers_from k n) i 0 ≡ k + i
from_get k zero i lt = absurd (omega arith)
from_get k (suc n) zero lt = omega arith
from_get k (suc n) (suc i) lt = from_get (k + 1) n i (omega arith) ∙ omega arith

pub length-with : (n : ℕ) (stored : List ℕ) → length (numbers_with n stored) ≡ n + length stored
length-with n stored = let first : length (numbers_from 0 n) ≡ n = length-from 0 n in length-append (numbers_from 0 n) stored ∙ omega (arith, first)

-- one more that is in order
pub number_counted : (n x : ℕ) (stored : List ℕ) → length stored ≡ 0 → x ≡ n → numbers_with (n + 1) stored ≡ numbers_with n stored ++ x ∷ []
number_counted n x [] none is =
    let last : 0 + n ≡ x = omega (arith, is) in
    append-nil (numbers_from 0 (n + 1)) ∙ from_more 0 n ∙ ap₂ (λ l i. l ++ i ∷ []) (sym (append-nil (numbers_from 0 n))) last
number_counted n x (s ∷ stored) none is = absurd (omega (arith, none))

-- the number at an index: one of the first, or a stored one
pub number_before : (n i : ℕ) (stored : List ℕ) → i < n → get_or (numbers_with n stored) i 0 ≡ i
number_before n i stored lt =
    let same : 0 + i ≡ i = omega arith in
    let first : length (numbers_from 0 n) ≡ n = length-from 0 n in
    get_or_append_left (numbers_from 0 n) stored 0 i (omega (arith, first, lt)) ∙ from_get 0 n i lt ∙ same

pub number_after : (n i : ℕ) (stored : List ℕ) → n ≤ i → get_or (numbers_with n stored) i 0 ≡ get_or stored (i - n) 0
number_after n i stored past = get_or-append_right (numbers_from 0 n) stored n i 0 (length-from 0 n) past

pub number_is : (n i x : ℕ) (stored : List ℕ) → i < n + length stored → x ≡ get_or (numbers_with n stored) i 0 → slice_get (numbers_with n stored) i ≡ Some x
number_is n i x stored lt is =
    let many : length (numbers_with n stored) ≡ n + length stored = length-with n stored in
    slice_get-get_or (numbers_with n stored) i 0 (omega (arith, many, lt)) ∙ ap Some (sym is)
