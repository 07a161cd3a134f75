-- When all platforms are finished, all that was sent was taken.
use Rattle.std.specs.Prelude.{◌<◌, ℕ, List, length}
use Rattle.pt_types.specs.declared.graph.Graph.{Graph}
use Rattle.pt_types.specs.declared.rows.Row.{Row}
use Rattle.pt_semantics.specs.History.{IsLegal, LegalOnTime}
use Rattle.pt_semantics.specs.Linked.{AreLinked, AreMatched, IsFinished}
use Rattle.pt_semantics.specs.Platform.{State, opened}
use Rattle.pt_semantics.specs.Ranks.{AreLevels}
use Rattle.pt_semantics.specs.Rows.{FitRows}
use Rattle.pt_semantics.specs.Turn.{Turn}
use Rattle.pt_semantics.specs.Wired.{IsWired}

-- matched histories of finished platforms, none of which took a late message, are linked
abbrev pub MatchedIsLinked : Type 0
MatchedIsLinked = (g : Graph) (level : ℕ → ℕ) (rows : ℕ → List Row) (histories : ℕ → List Turn) (ends : ℕ → State) → IsWired g → AreLevels g level → FitRows g rows →
    ((i : ℕ) → i < length g.platforms → LegalOnTime g level i (opened g i rows) (histories i) (ends i)) → ((i : ℕ) → i < length g.platforms → IsFinished g i (ends i)) → AreMatched g histories → AreLinked g histories

-- the same for legal histories: a finished platform took no late message
abbrev pub FinishedIsLinked : Type 0
FinishedIsLinked = (g : Graph) (level : ℕ → ℕ) (rows : ℕ → List Row) (histories : ℕ → List Turn) (ends : ℕ → State) → IsWired g → AreLevels g level → FitRows g rows →
    ((i : ℕ) → i < length g.platforms → IsLegal g level i rows (histories i) (ends i)) → ((i : ℕ) → i < length g.platforms → IsFinished g i (ends i)) → AreMatched g histories → AreLinked g histories
