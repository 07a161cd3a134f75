-- The histories of whole runs in fixed order.
use Rattle.std.specs.Prelude.{◌<◌, ℕ, List, length}
use Rattle.pt_types.specs.declared.graph.Graph.{Graph}
use Rattle.pt_types.specs.declared.rows.Row.{Row}
use Rattle.pt_semantics.specs.History.{IsLegal}
use Rattle.pt_semantics.specs.Kept.{kept}
use Rattle.pt_semantics.specs.Linked.{AreLinked, AreMatched}
use Rattle.pt_semantics.specs.Ranks.{AreLevels}
use Rattle.pt_semantics.specs.Rows.{FitRows}
use Rattle.pt_semantics.specs.Visits.{AreFinished, RunState}
use Rattle.pt_semantics.specs.Wired.{IsWired}
use Rattle.pt_fixed_order_laws.specs.SoFar.{WholeRun}

-- the kept histories are legal and matched, and linked if all platforms are finished
abbrev pub FixedOrderIsLegal : Type 0
FixedOrderIsLegal = (g : Graph) (level : ℕ → ℕ) (rows : ℕ → List Row) (most : ℕ) (readings : ℕ → List ℕ) (y : RunState) → IsWired g → AreLevels g level → FitRows g rows → WholeRun g level rows most readings y →
    ((i : ℕ) → i < length g.platforms → IsLegal g level i rows (kept (y.did i)) (y.at i))
    × AreMatched g (λ i. kept (y.did i)) × (AreFinished g y → AreLinked g (λ i. kept (y.did i)))
