-- Eight optional values as two lists: which ones are present, and the values.
use Rattle.std.specs.Prelude.{◌≡◌, Bool, true, false, List, [], ◌∷◌, Option, None, Some, ℤ, pos, map, is_some}
use Rattle.pt_types.specs.Ports.{when}

-- a value, or 0 if there is none
abbrev pub value_or_zero : Option ℤ → ℤ
value_or_zero None = pos 0
value_or_zero (Some v) = v

-- which values are present
abbrev pub are_there : List (Option ℤ) → List Bool
are_there ports = map is_some ports

-- the values, with 0 for each that is absent
abbrev pub values_or_zero : List (Option ℤ) → List ℤ
values_or_zero ports = map value_or_zero ports

-- the optional values again, from both lists
abbrev pub together : List Bool → List ℤ → List (Option ℤ)
together [] vs = []
together (t ∷ ts) [] = []
together (t ∷ ts) (v ∷ vs) = when t (Some v) ∷ together ts vs

-- the lists are equally long, and the value is 0 where none is present
abbrev pub AreApart : List Bool → List ℤ → Type 0
AreApart [] [] = Unit {0}
AreApart [] (v ∷ vs) = ⊥
AreApart (t ∷ ts) [] = ⊥
AreApart (true ∷ ts) (v ∷ vs) = AreApart ts vs
AreApart (false ∷ ts) (v ∷ vs) = (v ≡ pos 0) × AreApart ts vs
