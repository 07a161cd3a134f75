-- Entering: rows come in when they are seen.
use Rattle.std.specs.Prelude.{◌==◌, if◌then◌else◌, ◌∷◌, [], ℕ, List, flat_map, length, map, nat_le}
use Rattle.std.specs.List.{range_with_len}
use Rattle.pt_types.specs.declared.graph.Graph.{Graph}
use Rattle.pt_types.specs.declared.rows.Row.{Row}
use Rattle.pt_types.specs.declared.rows.RowAt.{RowAt}
use Rattle.pt_types.specs.Ports.{when}
use Rattle.pt_semantics.specs.Platform.{State}
use Rattle.pt_semantics.specs.Meaning.{added, row_at}

-- the first rows that are seen by reading r
abbrev pub due : ℕ → List Row → List Row
due r [] = []
due r (row ∷ rows) = if nat_le row.seen r then row ∷ due r rows else []

-- the rows after them
abbrev pub not_due : ℕ → List Row → List Row
not_due r [] = []
not_due r (row ∷ rows) = if nat_le row.seen r then not_due r rows else row ∷ rows

-- the rows of all sensors that are seen by reading r, in sensor order
abbrev pub all_due : Graph → ℕ → (ℕ → List Row) → List RowAt
all_due g r left = flat_map (λ a. map (λ row. record { sensor = a; row = row }) (due r (left a))) (range_with_len 0 (length g.actors))

-- the state after the rows that are seen by reading r have entered
abbrev pub after_rows : State → ℕ → State
after_rows s r = record s {
  waits = added s.waits (λ a p t. when (p == 0) (row_at (due r (s.left a)) t));
  left = λ a. not_due r (s.left a);
}
