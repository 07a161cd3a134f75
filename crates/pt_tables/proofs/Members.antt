-- What holds of each member of a list.
use Rattle.std.proofs.Common.{◌≡◌, ◌⊎◌, ℕ, zero, suc, ◌+◌, ◌<◌, List, [], ◌∷◌, Some, refl, sym, subst, ◌∙◌, ⊎_elim, inl, inr, ◌≤◌, arith, map, slice_get}
use Rattle.std.proofs.lemmas.Bool.{cases_lt}
use Rattle.pt_semantics.specs.Lists.{Each}
use Rattle.pt_semantics.proofs.Lookups.{same_some}

pub each_of : {X : Type 0} (P : X → Type 0) (xs : List X) → ((k : ℕ) (x : X) → slice_get xs k ≡ Some x → P x) → Each P xs
each_of P [] h = tt
each_of P (x ∷ xs) h = (h zero x refl, each_of P xs (λ k y at. h (suc k) y at))

-- one more place: what is there, if anything
pub one_more_at : {X : Type 0} (P : X → Type 0) (xs : List X) (n : ℕ) → ((x : X) → slice_get xs n ≡ Some x → P x) → ((k : ℕ) (y : X) → k < n → slice_get xs k ≡ Some y → P y) → (k : ℕ) (y : X) → k < n + 1 → slice_get xs k ≡ Some y → P y
one_more_at P xs n here before k y lt there =
    ⊎_elim
    (λ (below : k < n). before k y below there)
    (λ (past : n < k + 1). let same : k ≡ n = omega (arith, lt, past) in here y (subst (λ m. slice_get xs m ≡ Some y) same there))
    (cases k n)
  where
    cases : (k n : ℕ) → (k < n) ⊎ (n < k + 1)
    cases k n = ⊎_elim (λ (h : k < n). inl h) (λ (h : n ≤ k). inr (omega (arith, h))) (cases_lt k n)

-- one more
pub one_more : {X : Type 0} (P : X → Type 0) (xs : List X) (n : ℕ) (x : X) → slice_get xs n ≡ Some x → P x → ((k : ℕ) (y : X) → k < n → slice_get xs k ≡ Some y → P y) → (k : ℕ) (y : X) → k < n + 1 → slice_get xs k ≡ Some y → P y
one_more P xs n x at holds before = one_more_at P xs n (λ y there. subst P (same_some x y (sym at ∙ there)) holds) before

-- of what a function gives of each
pub each_mapped : {X Y : Type 0} (f : X → Y) (P : Y → Type 0) (xs : List X) → Each (λ (x : X). P (f x)) xs → Each P (map f xs)
each_mapped f P [] h = tt
each_mapped f P (x ∷ xs) h = (h.0, each_mapped f P xs h.1)
