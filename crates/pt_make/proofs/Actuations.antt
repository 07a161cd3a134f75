-- The firings of `out` among the first ones.
use Rattle.std.proofs.Common.{◌≡◌, ℕ, zero, suc, ◌<◌, ◌==◌, Bool, true, false, List, [], ◌∷◌, ◌++◌, None, Some, length, slice_get, take, if◌then◌else◌, arith, refl, sym, ap, ◌∙◌}
use Rattle.pt_types.specs.declared.firing.ActorFiring.{ActorFiring}
use Rattle.pt_semantics.proofs.Lookups.{none_some, same_some}
use Rattle.pt_make.specs.Summary.{actuations, if_out, last_firing}

pub last_push : (xs : List ActorFiring) (x : ActorFiring) → last_firing (xs ++ x ∷ []) ≡ Some x
last_push [] x = refl
last_push (y ∷ []) x = refl
last_push (y ∷ z ∷ xs) x = last_push (z ∷ xs) x

cons : (x : ActorFiring) (xs : List ActorFiring) (b : Bool) → (x.actor == 17) ≡ b → actuations (x ∷ xs) ≡ (if b then x ∷ actuations xs else actuations xs)
cons x xs b e = rw e refl

-- one more firing, of `out`
pub after_one : (xs : List ActorFiring) (i : ℕ) (f : ActorFiring) → i < length xs → if_out (slice_get xs i) ≡ Some f → actuations (take (suc i) xs) ≡ actuations (take i xs) ++ f ∷ []
after_one [] i f l h = absurd (omega (arith, l))
after_one (x ∷ xs) zero f l h = by_test (x.actor == 17) refl
  where
    by_test : (b : Bool) → (x.actor == 17) ≡ b → actuations (x ∷ []) ≡ f ∷ []
    by_test true e = cons x [] true e ∙ ap (λ y. y ∷ []) (same_some x f (rw e at h))
    by_test false e = absurd (none_some f (rw e at h))
after_one (x ∷ xs) (suc i) f l h = by_test (x.actor == 17) refl (after_one xs i f (omega (arith, l)) h)
  where
    by_test : (b : Bool) → (x.actor == 17) ≡ b → actuations (take (suc i) xs) ≡ actuations (take i xs) ++ f ∷ [] → actuations (x ∷ take (suc i) xs) ≡ actuations (x ∷ take i xs) ++ f ∷ []
    by_test true e on = cons x (take (suc i) xs) true e ∙ ap (λ ys. x ∷ ys) on ∙ ap (λ ys. ys ++ f ∷ []) (sym (cons x (take i xs) true e))
    by_test false e on = cons x (take (suc i) xs) false e ∙ on ∙ ap (λ ys. ys ++ f ∷ []) (sym (cons x (take i xs) false e))

-- or of another actor
pub after_none : (xs : List ActorFiring) (i : ℕ) → i < length xs → if_out (slice_get xs i) ≡ None → actuations (take (suc i) xs) ≡ actuations (take i xs)
after_none [] i l h = absurd (omega (arith, l))
after_none (x ∷ xs) zero l h = by_test (x.actor == 17) refl
  where
    by_test : (b : Bool) → (x.actor == 17) ≡ b → actuations (x ∷ []) ≡ []
    by_test true e = absurd (none_some x (sym (rw e at h)))
    by_test false e = cons x [] false e
after_none (x ∷ xs) (suc i) l h = by_test (x.actor == 17) refl (after_none xs i (omega (arith, l)) h)
  where
    by_test : (b : Bool) → (x.actor == 17) ≡ b → actuations (take (suc i) xs) ≡ actuations (take i xs) → actuations (x ∷ take (suc i) xs) ≡ actuations (x ∷ take i xs)
    by_test true e on = cons x (take (suc i) xs) true e ∙ ap (λ ys. x ∷ ys) on ∙ sym (cons x (take i xs) true e)
    by_test false e on = cons x (take (suc i) xs) false e ∙ on ∙ sym (cons x (take i xs) false e)
