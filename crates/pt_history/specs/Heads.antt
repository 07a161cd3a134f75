-- Heads, stored as their last readings and their runs.
use Rattle.std.specs.Prelude.{ℕ, List, [], ◌∷◌}
use Rattle.pt_history.specs.declared.head.Head.{Head}
use Rattle.pt_history.specs.declared.past_heads.Run.{Run}

-- the head of a single turn at a reading
abbrev pub single : ℕ → Head
single reading = record { first = reading; last = reading; count = 1 }

-- the head with this last reading: that of a run, or else that of a single turn
abbrev pub head_with : ℕ → List Run → Head
head_with last [] = single last
head_with last (run ∷ more) = record { first = run.first; last = last; count = run.count }

-- the heads with these last readings, and the list of each
abbrev pub heads_of : List ℕ → List (List Run) → List Head
heads_of [] lists = []
heads_of (l ∷ lasts) [] = []
heads_of (l ∷ lasts) (runs ∷ lists) = head_with l runs ∷ heads_of lasts lists
