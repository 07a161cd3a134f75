-- A meaning exists.
use Rattle.std.specs.Prelude.{ℕ, List}
use Rattle.pt_types.specs.declared.graph.Graph.{Graph}
use Rattle.pt_types.specs.declared.rows.Row.{Row}
use Rattle.pt_semantics.specs.Meaning.{ActorFiring, IsMeaning}
use Rattle.pt_semantics.specs.Ranks.{AreLevels, AreRanks}
use Rattle.pt_semantics.specs.Rows.{FitRows}
use Rattle.pt_semantics.specs.Wired.{IsWired}

-- a graph in which each cycle takes time, so that its actors have levels and ranks, has a meaning for the rows of a run
abbrev pub MeaningsExist : Type 0
MeaningsExist = (g : Graph) (level rank : ℕ → ℕ) (rows : ℕ → List Row) → IsWired g → AreLevels g level → AreRanks g rank → FitRows g rows → (xs : List ActorFiring) × IsMeaning g rank rows xs
