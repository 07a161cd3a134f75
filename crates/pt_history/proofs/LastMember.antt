-- A list with its last member changed.
use Rattle.std.proofs.Common.{◌≡◌, ℕ, zero, suc, ◌+◌, ◌<◌, List, [], ◌∷◌, ◌++◌, length, get_or, refl, ap, append-nil, arith}
use Rattle.pt_history.specs.Lists.{on_last}

pub length-on_last : {X : Type 0} (f : X → X) (xs : List X) → length (on_last f xs) ≡ length xs
length-on_last f [] = refl
length-on_last f (x ∷ []) = refl
length-on_last f (x ∷ y ∷ xs) = ap suc (length-on_last f (y ∷ xs))

-- where it is known which member is the last
pub on_last-push : {X : Type 0} (f : X → X) (xs : List X) (x : X) → on_last f (xs ++ x ∷ []) ≡ xs ++ f x ∷ []
on_last-push f [] x = refl
on_last-push f (y ∷ []) x = refl
on_last-push f (y ∷ z ∷ xs) x = ap (λ l. y ∷ l) (on_last-push f (z ∷ xs) x)

-- each member by its number
pub before_last : {X : Type 0} (f : X → X) (xs : List X) (j : ℕ) (d : X) → j + 1 < length xs → get_or (on_last f xs) j d ≡ get_or xs j d
before_last f [] j d lt = refl
before_last f (x ∷ []) j d lt = absurd (omega arith)
before_last f (x ∷ y ∷ xs) zero d lt = refl
before_last f (x ∷ y ∷ xs) (suc j) d lt = before_last f (y ∷ xs) j d (omega arith)

pub at_last : {X : Type 0} (f : X → X) (xs : List X) (j : ℕ) (d : X) → j + 1 ≡ length xs → get_or (on_last f xs) j d ≡ f (get_or xs j d)
at_last f [] j d e = absurd (omega arith)
at_last f (x ∷ []) zero d e = refl
at_last f (x ∷ []) (suc j) d e = absurd (omega arith)
at_last f (x ∷ y ∷ xs) zero d e = absurd (omega arith)
at_last f (x ∷ y ∷ xs) (suc j) d e = at_last f (y ∷ xs) j d (omega arith)

-- nothing is appended
nothing_on : {X : Type 0} (xs : List (List X)) → on_last (λ (l : List X). l ++ []) xs ≡ xs
nothing_on [] = refl
nothing_on (x ∷ []) = ap (λ l. l ∷ []) (append-nil x)
nothing_on (x ∷ y ∷ xs) = ap (λ ls. x ∷ ls) (nothing_on (y ∷ xs))

pub on_last-nothing : {X : Type 0} (more : List X) (xs : List (List X)) → length more ≡ 0 → on_last (λ (l : List X). l ++ more) xs ≡ xs
on_last-nothing [] xs none = nothing_on xs
on_last-nothing (x ∷ more) xs none = absurd (omega arith)
