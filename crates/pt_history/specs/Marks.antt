-- Claims without their inputs and their states, stored flat.
use Rattle.std.specs.Prelude.{◌-◌, ◌++◌, ℕ, List, [], ◌∷◌, length}
use Rattle.pt_tags.specs.declared.tag.Tag.{Tag}
use Rattle.pt_history.specs.declared.claims.Mark.{Mark}
use Rattle.pt_history.specs.Numbers.{numbers_from}

-- the numbers of `count` marks: the last are stored, and each one before them is its index
abbrev pub mark_numbers : ℕ → List ℕ → List ℕ
mark_numbers count stored = numbers_from 0 (count - length stored) ++ stored

-- the marks with these tags, actors and numbers
abbrev pub marks_of : List Tag → List ℕ → List ℕ → List Mark
marks_of [] actors numbers = []
marks_of (t ∷ tags) [] numbers = []
marks_of (t ∷ tags) (a ∷ actors) [] = []
marks_of (t ∷ tags) (a ∷ actors) (n ∷ numbers) = record { tag = t; number = n; actor = a } ∷ marks_of tags actors numbers
