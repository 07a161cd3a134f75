-- A list with one member changed.
use Rattle.std.proofs.Common.{◌≡◌, ◌≢◌, ◌⊎◌, ℕ, zero, suc, List, [], ◌∷◌, Some, refl, sym, ap, subst, ◌∙◌, inl, inr, ⊎_elim, set, slice_get}
use Rattle.pt_semantics.proofs.Lookups.{none_some, same_some}
use Rattle.pt_laws.proofs.Onward.{cases_same}

pub set_here : {X : Type 0} (xs : List X) (i : ℕ) (x old : X) → slice_get xs i ≡ Some old → slice_get (set xs i x) i ≡ Some x
set_here [] i x old e = absurd (none_some old e)
set_here (y ∷ xs) zero x old e = refl
set_here (y ∷ xs) (suc i) x old e = set_here xs i x old e

pub set_elsewhere : {X : Type 0} (xs : List X) (i j : ℕ) (x : X) → j ≢ i → slice_get (set xs i x) j ≡ slice_get xs j
set_elsewhere [] i j x ne = refl
set_elsewhere (y ∷ xs) zero zero x ne = absurd (ne refl)
set_elsewhere (y ∷ xs) zero (suc j) x ne = refl
set_elsewhere (y ∷ xs) (suc i) zero x ne = refl
set_elsewhere (y ∷ xs) (suc i) (suc j) x ne = set_elsewhere xs i j x (λ e. ne (ap suc e))

pub set_cases : {X : Type 0} (xs : List X) (i j : ℕ) (new old x : X) → slice_get xs i ≡ Some old → slice_get (set xs i new) j ≡ Some x → ((j ≡ i) × (x ≡ new)) ⊎ ((j ≢ i) × (slice_get xs j ≡ Some x))
set_cases xs i j new old x there at =
    ⊎_elim
    (λ (here : j ≡ i). inl (here, same_some x new (sym (subst (λ n. slice_get (set xs i new) n ≡ Some x) here at) ∙ set_here xs i new old there)))
    (λ (other : j ≢ i). inr (other, sym (set_elsewhere xs i j new other) ∙ at))
    (cases_same j i)
