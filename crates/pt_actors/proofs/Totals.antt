-- The sum of the values that are there, one value after another.
use Rattle.std.proofs.Common.{◌≡◌, ℕ, suc, ◌+◌, ◌<◌, List, ◌∷◌, Option, Some, None, ℤ, ◌+ℤ◌, length, get_or, drop, drop-cons, refl, sym, ap, add-one, ◌∙◌}
use Rattle.std.proofs.Math.IntN.{+ℤ_idl, +ℤ_assoc}
use Rattle.pt_semantics.specs.Firing.{or_zero, present_sum}

present_sum-cons : (x : Option ℤ) (xs : List (Option ℤ)) → present_sum (x ∷ xs) ≡ or_zero x +ℤ present_sum xs
present_sum-cons None xs = sym (+ℤ_idl (present_sum xs))
present_sum-cons (Some x) xs = refl

-- the sum so far and the sum of the rest, after one value more
pub present_sum-more : (xs : List (Option ℤ)) (i : ℕ) (total all : ℤ) → i < length xs → total +ℤ present_sum (drop i xs) ≡ all
    → (total +ℤ or_zero (get_or xs i None)) +ℤ present_sum (drop (i + 1) xs) ≡ all
present_sum-more xs i total all h was =
    let step : present_sum (drop i xs) ≡ or_zero (get_or xs i None) +ℤ present_sum (drop (i + 1) xs) =
    rw add-one (ap present_sum (drop-cons xs i None h) ∙ present_sum-cons (get_or xs i None) (drop (suc i) xs)) in
    +ℤ_assoc total (or_zero (get_or xs i None)) (present_sum (drop (i + 1) xs)) ∙ ap (λ z. total +ℤ z) (sym step) ∙ was
