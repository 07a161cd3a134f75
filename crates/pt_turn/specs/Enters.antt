-- When rows that entered are due.
use Rattle.std.specs.Prelude.{ℕ, ◌<◌}
use Rattle.pt_types.specs.declared.graph.Graph.{Graph}
use Rattle.pt_types.specs.declared.rows.RowAt.{RowAt}
use Rattle.pt_semantics.specs.Meaning.{at_time}
use Rattle.pt_semantics.specs.Units.{at_input}
use Rattle.pt_turn.specs.Claims.Early.{IsDueAt}

-- the event of a row isn't due at its sensor at a reading below n
abbrev pub IsNotDueBefore : Graph → ℕ → RowAt → Type 0
IsNotDueBefore g n x = (q : ℕ) → q < n → IsDueAt g q (at_input g x.sensor 0) (at_time x.row.time) → ⊥
