-- Optional values split into two lists and joined again are the same.
use Rattle.std.proofs.Common.{◌≡◌, List, [], ◌∷◌, refl, ap, sym, ◌∙◌, true, false, Bool}
use Rattle.std.specs.Prelude.{ℤ}
use Rattle.pt_types.specs.Apart.{AreApart, are_there, together, values_or_zero}

-- the same values are present
pub same_there : (ts : List Bool) (vs : List ℤ) → AreApart ts vs → are_there (together ts vs) ≡ ts
same_there [] [] h = refl
same_there [] (v ∷ vs) h = absurd h
same_there (t ∷ ts) [] h = absurd h
same_there (true ∷ ts) (v ∷ vs) h = ap (λ xs. true ∷ xs) (same_there ts vs h)
same_there (false ∷ ts) (v ∷ vs) h = ap (λ xs. false ∷ xs) (same_there ts vs h.1)

-- and they are the same values
pub same_values : (ts : List Bool) (vs : List ℤ) → AreApart ts vs → values_or_zero (together ts vs) ≡ vs
same_values [] [] h = refl
same_values [] (v ∷ vs) h = absurd h
same_values (t ∷ ts) [] h = absurd h
same_values (true ∷ ts) (v ∷ vs) h = ap (λ xs. v ∷ xs) (same_values ts vs h)
same_values (false ∷ ts) (v ∷ vs) h = ap (λ x. x ∷ values_or_zero (together ts vs)) (sym h.0) ∙ ap (λ xs. v ∷ xs) (same_values ts vs h.1)
