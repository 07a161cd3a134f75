-- The greatest number of rounds of a paced run.
use Rattle.std.specs.Prelude.{◌≤◌, ◌+◌, ◌*◌, ℕ, ℤ, List, Option, length}
use Rattle.pt_types.specs.declared.graph.Graph.{Graph}
use Rattle.pt_types.specs.declared.graph.Unit.{Unit}
use Rattle.pt_types.specs.declared.rows.Row.{Row}
use Rattle.pt_semantics.specs.Counts.{sum_below}
use Rattle.pt_semantics.specs.Offsets.{HasOffset, IsFeasible}
use Rattle.pt_semantics.specs.Ranks.{AreLevels}
use Rattle.pt_semantics.specs.Rounds.{IsPacedRun}
use Rattle.pt_semantics.specs.Rows.{FitRows}
use Rattle.pt_semantics.specs.Visits.{VisitRecord, RunState}
use Rattle.pt_semantics.specs.Wired.{IsWired}

-- the moves of a platform, at most: the graph's number of claims, one closing, each row once, and on each link as many messages
-- sent and taken as one for each claim and the end
abbrev pub most_moves : Graph → (ℕ → List Row) → ℕ
most_moves g rows = (g.claims + 1) + (sum_below (λ a. length (rows a)) (length g.actors) + (length g.links * (g.claims + 1) + length g.links * (g.claims + 1)))

-- the rounds of a run, at most: each move in a round of its own, after
-- each of these one that only posts and one that is quiet, and two more
abbrev pub most_rounds : Graph → (ℕ → List Row) → ℕ
most_rounds g rows = 3 * (length g.platforms * most_moves g rows) + 2

-- a paced run has no more rounds than that
abbrev pub RoundsEnd : Type 0
RoundsEnd = (g : Graph) (level : ℕ → ℕ) (rows : ℕ → List Row) (offset : Unit → Option ℤ) (rounds : List (List VisitRecord)) (c : ℕ) (x : RunState) →
    IsWired g → AreLevels g level → FitRows g rows → IsFeasible g → ((u : Unit) → HasOffset g u (offset u)) → IsPacedRun g level rows rounds c x → length rounds ≤ most_rounds g rows
