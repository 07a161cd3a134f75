-- The greatest of some numbers, one more at a time.
use Rattle.std.proofs.Common.{◌≡◌, ℕ, ◌+◌, ◌<◌, ◌≤◌, sym, ap, subst, ◌∙◌, arith, ◌⊎◌, inl, inr, ⊎_elim}
use Rattle.std.specs.Prelude.{max}
use Rattle.std.proofs.Math.Nat.{le-max_left, le-max_right}
use Rattle.pt_slacks.specs.Needs.{IsMost}
use Rattle.pt_offsets.proofs.Maxima.{last_or_before}

max_is : (x y : ℕ) → (max x y ≡ x) ⊎ (max x y ≡ y)
max_is x y = grind arith

pub up_to : (x y z : ℕ) → x ≤ y → y ≤ z → x ≤ z
up_to x y z h k = omega arith

-- with one number more the greatest is the greater of both
pub most_more : (start n : ℕ) (f : ℕ → ℕ) (x y : ℕ) → IsMost start n f x → y ≡ f n → IsMost start (n + 1) f (max x y)
most_more start n f x y most last = record {
  from = up_to start x (max x y) most.from (le-max_left x y);
  each = λ k h.
      ⊎_elim
      (λ (less : k < n). up_to (f k) x (max x y) (most.each k less) (le-max_left x y))
      (λ (here : k ≡ n). subst (λ z. z ≤ max x y) (last ∙ ap f (sym here)) (le-max_right x y))
      (last_or_before n k h);
  some =
      ⊎_elim
      (λ (left : max x y ≡ x).
      ⊎_elim
      (λ (e : x ≡ start). inl (left ∙ e))
      (λ (e : (k : ℕ) × (k < n) × (x ≡ f k)). let less : e.0 < n = e.1 in inr (e.0, omega arith, left ∙ e.2))
      most.some)
      (λ (right : max x y ≡ y). inr (n, omega arith, right ∙ last))
      (max_is x y);
}
