-- Members of lists.
use Rattle.std.proofs.Common.{◌≡◌, ℕ, zero, suc, ◌≤◌, List, [], ◌∷◌, ◌++◌, Some, length, refl, sym, ap, ◌⊎◌, ⊎_elim, inl, inr, arith}
use Rattle.std.specs.Prelude.{slice_get}
use Rattle.std.proofs.lemmas.Option.{slice_get_within}
use Rattle.pt_pool.proofs.Lanes.{same_some}

pub get_none : {A : Type 0} (k : ℕ) (x : A) → slice_get [] k ≡ Some x → ⊥
get_none k x e = cc

-- a member of a list that has one more at its end
pub get_front : {A : Type 0} (xs ys : List A) (k : ℕ) (x : A) → slice_get xs k ≡ Some x → slice_get (xs ++ ys) k ≡ Some x
get_front [] ys k x e = absurd (get_none k x e)
get_front (y ∷ xs) ys zero x e = e
get_front (y ∷ xs) ys (suc k) x e = get_front xs ys k x e

pub get_last : {A : Type 0} (xs : List A) (y : A) → slice_get (xs ++ y ∷ []) (length xs) ≡ Some y
get_last [] y = refl
get_last (x ∷ xs) y = get_last xs y

pub get_snoc : {A : Type 0} (xs : List A) (y : A) (k : ℕ) (x : A) → slice_get (xs ++ y ∷ []) k ≡ Some x → (slice_get xs k ≡ Some x) ⊎ ((k ≡ length xs) × (x ≡ y))
get_snoc [] y zero x e = inr (refl, sym (same_some y x e))
get_snoc [] y (suc k) x e = absurd (get_none k x e)
get_snoc (z ∷ xs) y zero x e = inl e
get_snoc (z ∷ xs) y (suc k) x e = ⊎_elim (λ (a : slice_get xs k ≡ Some x). inl a) (λ (b : (k ≡ length xs) × (x ≡ y)). inr (ap suc b.0, b.1)) (get_snoc xs y k x e)

pub none_past : {A : Type 0} (xs : List A) (k : ℕ) (x : A) → length xs ≤ k → slice_get xs k ≡ Some x → ⊥
none_past xs k x le e = let w = slice_get_within xs k x e in omega (arith, w)
