-- Theorems about whole paced runs, as histories record them.
use Rattle.std.specs.Prelude.{◌≡◌, ◌<◌, ℕ, ℤ, List, Option, length}
use Rattle.pt_types.specs.declared.graph.Graph.{Graph}
use Rattle.pt_types.specs.declared.graph.Unit.{Unit}
use Rattle.pt_types.specs.declared.rows.Row.{Row}
use Rattle.pt_semantics.specs.History.{LegalOnTime}
use Rattle.pt_semantics.specs.Kept.{kept}
use Rattle.pt_semantics.specs.Lists.{Each}
use Rattle.pt_semantics.specs.Meaning.{ActorFiring, IsMeaning}
use Rattle.pt_semantics.specs.Offsets.{HasOffset, IsFeasible}
use Rattle.pt_semantics.specs.Platform.{opened}
use Rattle.pt_semantics.specs.Ranks.{AreLevels, AreRanks}
use Rattle.pt_semantics.specs.Rounds.{IsWholeRun}
use Rattle.pt_semantics.specs.Rows.{FitRows}
use Rattle.pt_semantics.specs.Turn.{Turn}
use Rattle.pt_semantics.specs.Visits.{AreFinished, RunState}
use Rattle.pt_semantics.specs.Wired.{IsWired}
use Rattle.pt_paced_laws.specs.Schedule.{AreAllClaimed, AreClaimedAsMeant, AreMissedAsMeant, IsOnSchedule, SendsWithinSlack}

-- all platforms together after a whole paced run of a graph that can run
pub record IsEnd (g : Graph) (level : ℕ → ℕ) (rows : ℕ → List Row) (y : RunState) : Type 0 where
  pub wired : IsWired g
  pub levels : AreLevels g level
  pub fit : FitRows g rows
  pub feasible : IsFeasible g
  pub offset : Unit → Option ℤ
  pub offsets : (u : Unit) → HasOffset g u (offset u)
  pub run : IsWholeRun g level rows y

-- the histories of the platforms
abbrev pub kept_by : RunState → ℕ → List Turn
kept_by y i = kept (y.did i)

-- no turn took a late message
abbrev pub NoneIsLate : Type 0
NoneIsLate = (g : Graph) (level : ℕ → ℕ) (rows : ℕ → List Row) (y : RunState) → IsEnd g level rows y → (i : ℕ) → i < length g.platforms → LegalOnTime g level i (opened g i rows) (kept_by y i) (y.at i)

-- each claim is made at exactly its paced reading
abbrev pub AllOnSchedule : Type 0
AllOnSchedule = (g : Graph) (level : ℕ → ℕ) (rows : ℕ → List Row) (y : RunState) → IsEnd g level rows y → (i : ℕ) → i < length g.platforms → Each (IsOnSchedule g) (kept_by y i)

-- no message is sent later than its sender's slack allows
abbrev pub AllWithinSlack : Type 0
AllWithinSlack = (g : Graph) (level : ℕ → ℕ) (rows : ℕ → List Row) (y : RunState) → IsEnd g level rows y → (i : ℕ) → i < length g.platforms → Each (SendsWithinSlack g) (kept_by y i)

-- the claims are those of the meaning: the first of them, and all if all platforms are finished
abbrev pub ClaimedAsMeant : Type 0
ClaimedAsMeant = (g : Graph) (level rank : ℕ → ℕ) (rows : ℕ → List Row) (y : RunState) (xs : List ActorFiring) → IsEnd g level rows y → AreRanks g rank → IsMeaning g rank rows xs →
    AreClaimedAsMeant g xs (kept_by y) × (AreFinished g y → AreAllClaimed g xs (kept_by y))

-- if all platforms are finished, the missed entries follow from the meaning and the paced readings
abbrev pub MissedAsMeant : Type 0
MissedAsMeant = (g : Graph) (level rank : ℕ → ℕ) (rows : ℕ → List Row) (y : RunState) (xs : List ActorFiring) → IsEnd g level rows y → AreFinished g y → AreRanks g rank → IsMeaning g rank rows xs → AreMissedAsMeant g xs (kept_by y)

-- a graph with its rows has one whole paced run: the same states, turns and messages, and the same faults in its last round
abbrev pub WholeRunsAreOne : Type 0
WholeRunsAreOne = (g : Graph) (level : ℕ → ℕ) (rows : ℕ → List Row) (y z : RunState) (a : IsEnd g level rows y) (b : IsEnd g level rows z) → (y ≡ z) × (a.run.made ≡ b.run.made)
