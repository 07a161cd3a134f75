-- The text of the margins.
use Rattle.std.specs.Prelude.{ℕ, suc, ℤ, List, [], ◌∷◌, ◌++◌, codes, None, Option, Some}
use Rattle.std.specs.Fmt.{signed_decimal}
use Rattle.pt_types.specs.declared.graph.Graph.{Graph}
use Rattle.pt_types.specs.declared.graph.Actor.{Actor}

-- actor,offset,margin
abbrev pub margins_head : List ℕ
margins_head = codes "actor,offset,margin" ++ 10 ∷ []

-- a number, or - if it is absent
abbrev pub cell : Option ℤ → List ℕ
cell None = 45 ∷ []
cell (Some number) = signed_decimal number

-- NAME,OFFSET,MARGIN
abbrev pub margin_line : List ℕ → Option ℤ → Option ℤ → List ℕ
margin_line name offset margin = name ++ 44 ∷ cell offset ++ 44 ∷ cell margin ++ 10 ∷ []

-- the lines of these actors, which are numbered from a on
abbrev pub lines_from : (ℕ → Option ℤ) → (ℕ → Option ℤ) → ℕ → List Actor → List ℕ
lines_from offset margin a [] = []
lines_from offset margin a (actor ∷ more) = margin_line actor.name (offset a) (margin a) ++ lines_from offset margin (suc a) more

-- the header, and the offset and the margin of each actor in graph order
abbrev pub margins_text : Graph → (ℕ → Option ℤ) → (ℕ → Option ℤ) → List ℕ
margins_text g offset margin = margins_head ++ lines_from offset margin 0 g.actors
