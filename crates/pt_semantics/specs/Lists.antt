-- Lists and lookups, as the definitions use them.
use Rattle.std.specs.Prelude.{◌≡◌, List, [], ◌∷◌, Option, Some, None, ◌⊎◌}

-- the first value, or the second if the first is absent
abbrev pub or_else : {X : Type 0} → Option X → Option X → Option X
or_else (Some x) other = Some x
or_else None other = other

-- the first value that f gives along a list
abbrev pub first_of : {X Y : Type 0} → (X → Option Y) → List X → Option Y
first_of f [] = None
first_of f (x ∷ xs) = or_else (f x) (first_of f xs)

-- x is in the list
abbrev pub IsIn : {X : Type 0} → X → List X → Type 0
IsIn x [] = ⊥
IsIn x (y ∷ ys) = (x ≡ y) ⊎ IsIn x ys

-- P holds for each member of the list
abbrev pub Each : {X : Type 0} → (X → Type 0) → List X → Type 0
Each P [] = Unit {0}
Each P (x ∷ xs) = P x × Each P xs
