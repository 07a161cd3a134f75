-- Eight ports, one by one.
use Rattle.std.proofs.Common.{◌≡◌, ℕ, zero, suc, ◌≤◌, List, [], ◌∷◌, length, get_or, set, refl, ap, sym, arith, Option, Some, None, true, false, Bool, ◌∙◌, ◌&&◌, ap₂, int_eq}
use Rattle.std.proofs.lemmas.List.{get_or_past}
use Rattle.std.specs.Prelude.{ℤ, pos, is_some}
use mathlib.Core.Bool.{beq}
use lib.Pointwise.{pointwise}
use Rattle.pt_types.specs.Together.{same_there, same_values}
use Rattle.pt_types.specs.declared.ports.Ports.{Ports}
use Rattle.pt_types.specs.declared.ports.Ports.TheInside.{Inside}
use Rattle.pt_types.specs.contracts.ports.Ports.{the_invariant, the_view}
use Rattle.pt_types.specs.Apart.{AreApart, are_there, value_or_zero, together, values_or_zero}
use Rattle.pt_types.specs.Ports.{at_port, when}

-- the first eight members of a list
abbrev pub eight_in : List (Option ℤ) → List (Option ℤ)
eight_in xs = get_or xs 0 None ∷ get_or xs 1 None ∷ get_or xs 2 None ∷ get_or xs 3 None ∷ get_or xs 4 None ∷ get_or xs 5 None ∷ get_or xs 6 None ∷ get_or xs 7 None ∷ []

-- a list of eight is these
pub eight_of : (xs : List (Option ℤ)) → length xs ≡ 8 → eight_in xs ≡ xs
eight_of (a ∷ b ∷ c ∷ e ∷ f ∷ g ∷ h ∷ k ∷ []) l = refl
eight_of [] l = absurd (omega (arith, l))
eight_of (a ∷ []) l = absurd (omega (arith, l))
eight_of (a ∷ b ∷ []) l = absurd (omega (arith, l))
eight_of (a ∷ b ∷ c ∷ []) l = absurd (omega (arith, l))
eight_of (a ∷ b ∷ c ∷ e ∷ []) l = absurd (omega (arith, l))
eight_of (a ∷ b ∷ c ∷ e ∷ f ∷ []) l = absurd (omega (arith, l))
eight_of (a ∷ b ∷ c ∷ e ∷ f ∷ g ∷ []) l = absurd (omega (arith, l))
eight_of (a ∷ b ∷ c ∷ e ∷ f ∷ g ∷ h ∷ []) l = absurd (omega (arith, l))
eight_of (a ∷ b ∷ c ∷ e ∷ f ∷ g ∷ h ∷ k ∷ m ∷ xs) l = absurd (omega (arith, l))

-- as many are there as values
pub same_length : (ts : List Bool) (vs : List ℤ) → AreApart ts vs → length (together ts vs) ≡ length ts
same_length [] [] h = refl
same_length [] (v ∷ vs) h = absurd h
same_length (t ∷ ts) [] h = absurd h
same_length (true ∷ ts) (v ∷ vs) h = ap suc (same_length ts vs h)
same_length (false ∷ ts) (v ∷ vs) h = ap suc (same_length ts vs h.1)

-- the value at one port
pub at_together : (ts : List Bool) (vs : List ℤ) (p : ℕ) → AreApart ts vs → at_port (together ts vs) p ≡ when (get_or ts p false) (Some (get_or vs p (pos 0)))
at_together [] [] p h = refl
at_together [] (v ∷ vs) p h = absurd h
at_together (t ∷ ts) [] p h = absurd h
at_together (t ∷ ts) (v ∷ vs) zero h = refl
at_together (true ∷ ts) (v ∷ vs) (suc p) h = at_together ts vs p h
at_together (false ∷ ts) (v ∷ vs) (suc p) h = at_together ts vs p h.1

-- a value put in keeps the others apart
pub apart_put : (ts : List Bool) (vs : List ℤ) (p : ℕ) (v : ℤ) → AreApart ts vs → AreApart (set ts p true) (set vs p v)
apart_put [] [] p v h = tt
apart_put [] (x ∷ vs) p v h = absurd h
apart_put (t ∷ ts) [] p v h = absurd h
apart_put (true ∷ ts) (x ∷ vs) zero v h = h
apart_put (false ∷ ts) (x ∷ vs) zero v h = h.1
apart_put (true ∷ ts) (x ∷ vs) (suc p) v h = apart_put ts vs p v h
apart_put (false ∷ ts) (x ∷ vs) (suc p) v h = (h.0, apart_put ts vs p v h.1)

-- and is the value there
pub together_put : (ts : List Bool) (vs : List ℤ) (p : ℕ) (v : ℤ) → AreApart ts vs → together (set ts p true) (set vs p v) ≡ set (together ts vs) p (Some v)
together_put [] [] p v h = refl
together_put [] (x ∷ vs) p v h = absurd h
together_put (t ∷ ts) [] p v h = absurd h
together_put (t ∷ ts) (x ∷ vs) zero v h = refl
together_put (true ∷ ts) (x ∷ vs) (suc p) v h = ap (λ xs. Some x ∷ xs) (together_put ts vs p v h)
together_put (false ∷ ts) (x ∷ vs) (suc p) v h = ap (λ xs. None ∷ xs) (together_put ts vs p v h.1)

-- past the last port there is none
pub past_together : (ts : List Bool) (vs : List ℤ) (p : ℕ) → AreApart ts vs → length ts ≤ p → at_port (together ts vs) p ≡ None
past_together ts vs p h far = get_or_past (together ts vs) p None (rw (same_length ts vs h) far)

-- eight equal members
pub same_eight : {X : Type 0} {a b c d e f g h a' b' c' d' e' f' g' h' : X} → a ≡ a' → b ≡ b' → c ≡ c' → d ≡ d' → e ≡ e' → f ≡ f' → g ≡ g' → h ≡ h'
    → a ∷ b ∷ c ∷ d ∷ e ∷ f ∷ g ∷ h ∷ [] ≡ a' ∷ b' ∷ c' ∷ d' ∷ e' ∷ f' ∷ g' ∷ h' ∷ []
same_eight p q r s t u v w i = p i ∷ q i ∷ r i ∷ s i ∷ t i ∷ u i ∷ v i ∷ w i ∷ []

-- eight values, each taken apart
pub apart_eight : {a b c d e f g h : Bool} {i j k l m n o p : ℤ} → (xs : List (Option ℤ))
    → a ≡ is_some (get_or xs 0 None) → b ≡ is_some (get_or xs 1 None) → c ≡ is_some (get_or xs 2 None) → d ≡ is_some (get_or xs 3 None)
    → e ≡ is_some (get_or xs 4 None) → f ≡ is_some (get_or xs 5 None) → g ≡ is_some (get_or xs 6 None) → h ≡ is_some (get_or xs 7 None)
    → i ≡ value_or_zero (get_or xs 0 None) → j ≡ value_or_zero (get_or xs 1 None) → k ≡ value_or_zero (get_or xs 2 None) → l ≡ value_or_zero (get_or xs 3 None)
    → m ≡ value_or_zero (get_or xs 4 None) → n ≡ value_or_zero (get_or xs 5 None) → o ≡ value_or_zero (get_or xs 6 None) → p ≡ value_or_zero (get_or xs 7 None)
    → (a ∷ b ∷ c ∷ d ∷ e ∷ f ∷ g ∷ h ∷ [] ≡ are_there (eight_in xs)) × (i ∷ j ∷ k ∷ l ∷ m ∷ n ∷ o ∷ p ∷ [] ≡ values_or_zero (eight_in xs))
apart_eight xs qa qb qc qd qe qf qg qh qi qj qk ql qm qn qo qp = (same_eight qa qb qc qd qe qf qg qh, same_eight qi qj qk ql qm qn qo qp)

-- taken apart, they are apart
pub apart_all : (xs : List (Option ℤ)) → AreApart (are_there xs) (values_or_zero xs)
apart_all [] = tt
apart_all (None ∷ xs) = (refl, apart_all xs)
apart_all (Some v ∷ xs) = apart_all xs

-- and together again they are the same
pub together_all : (xs : List (Option ℤ)) → together (are_there xs) (values_or_zero xs) ≡ xs
together_all [] = refl
together_all (None ∷ xs) = ap (λ ys. None ∷ ys) (together_all xs)
together_all (Some v ∷ xs) = ap (λ ys. Some v ∷ ys) (together_all xs)

-- ports are compared by which values are there and by the values
pub eq_apart : {e r : Bool} → (p q : Inside) (x y : Ports) → the_view p ≡ x → the_view q ≡ y → the_invariant p → the_invariant q
    → e ≡ pointwise beq p.there q.there → r ≡ (e && pointwise int_eq p.values q.values)
    → r ≡ (pointwise beq (are_there x) (are_there y) && pointwise int_eq (values_or_zero x) (values_or_zero y))
eq_apart p q x y px qy hp hq there values =
    let tp = sym (same_there p.there p.values hp) ∙ ap are_there px in
    let tq = sym (same_there q.there q.values hq) ∙ ap are_there qy in
    let vp = sym (same_values p.there p.values hp) ∙ ap values_or_zero px in
    let vq = sym (same_values q.there q.values hq) ∙ ap values_or_zero qy in
    values ∙ ap₂ ◌&&◌ (there ∙ ap₂ (λ a b. pointwise beq a b) tp tq) (ap₂ (λ a b. pointwise int_eq a b) vp vq)
