-- Eight ports, filled one after another.
use Rattle.std.proofs.Common.{◌≡◌, ℕ, zero, suc, ◌+◌, ◌<◌, ◌≤◌, ◌∷◌, Bool, true, false, nat_lt, Option, None, ℤ, slice_set, refl, ap₂, arith}
use Rattle.pt_types.specs.Ports.{at_port, eight, when}

pub next_none : (f : ℕ → Option ℤ) (k : ℕ) → k < 8 → at_port (eight (λ p. when (nat_lt p k) (f p))) k ≡ None
next_none f zero l = refl
next_none f (suc zero) l = refl
next_none f (suc (suc zero)) l = refl
next_none f (suc (suc (suc zero))) l = refl
next_none f (suc (suc (suc (suc zero)))) l = refl
next_none f (suc (suc (suc (suc (suc zero))))) l = refl
next_none f (suc (suc (suc (suc (suc (suc zero)))))) l = refl
next_none f (suc (suc (suc (suc (suc (suc (suc zero))))))) l = refl
next_none f (suc (suc (suc (suc (suc (suc (suc (suc k)))))))) l = absurd (omega (arith, l))

pub next_put : (f : ℕ → Option ℤ) (k : ℕ) → k < 8 → slice_set (eight (λ p. when (nat_lt p k) (f p))) k (f k) ≡ eight (λ p. when (nat_lt p (k + 1)) (f p))
next_put f zero l = refl
next_put f (suc zero) l = refl
next_put f (suc (suc zero)) l = refl
next_put f (suc (suc (suc zero))) l = refl
next_put f (suc (suc (suc (suc zero)))) l = refl
next_put f (suc (suc (suc (suc (suc zero))))) l = refl
next_put f (suc (suc (suc (suc (suc (suc zero)))))) l = refl
next_put f (suc (suc (suc (suc (suc (suc (suc zero))))))) l = refl
next_put f (suc (suc (suc (suc (suc (suc (suc (suc k)))))))) l = absurd (omega (arith, l))

-- eight ports with the same values
eight_same : (f g : ℕ → Option ℤ) → ((p : ℕ) → p < 8 → f p ≡ g p) → eight f ≡ eight g
eight_same f g h =
    ap₂ (λ x xs. x ∷ xs) (h 0 (omega arith)) (ap₂ (λ x xs. x ∷ xs) (h 1 (omega arith)) (ap₂ (λ x xs. x ∷ xs) (h 2 (omega arith)) (ap₂ (λ x xs. x ∷ xs) (h 3 (omega arith))
    (ap₂ (λ x xs. x ∷ xs) (h 4 (omega arith)) (ap₂ (λ x xs. x ∷ xs) (h 5 (omega arith)) (ap₂ (λ x xs. x ∷ xs) (h 6 (omega arith)) (ap₂ (λ x xs. x ∷ xs) (h 7 (omega arith)) refl)))))))

-- from port k on there are no values
pub rest_none : (f : ℕ → Option ℤ) (k : ℕ) → ((p : ℕ) → k ≤ p → p < 8 → None ≡ f p) → eight (λ p. when (nat_lt p k) (f p)) ≡ eight f
rest_none f k none = eight_same (λ p. when (nat_lt p k) (f p)) f (λ p l. by p l (nat_lt p k) refl)
  where
    past : (n m : ℕ) → nat_lt n m ≡ false → m ≤ n
    past n m h = grind arith

    by : (p : ℕ) → p < 8 → (b : Bool) → nat_lt p k ≡ b → when b (f p) ≡ f p
    by p l true e = refl
    by p l false e = none p (past p k e) l
