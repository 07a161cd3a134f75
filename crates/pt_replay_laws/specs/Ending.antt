-- The greatest number of rounds of a replay, how a replay begins, and after which quiet round it ends.
use Rattle.std.specs.Prelude.{◌≡◌, ◌<◌, ◌≤◌, ℕ, List, false, length}
use Rattle.pt_types.specs.declared.graph.Graph.{Graph}
use Rattle.pt_types.specs.declared.rows.Row.{Row}
use Rattle.pt_semantics.specs.Lists.{Each}
use Rattle.pt_semantics.specs.Ranks.{AreLevels}
use Rattle.pt_semantics.specs.Rows.{FitRows}
use Rattle.pt_semantics.specs.Visits.{VisitRecord}
use Rattle.pt_semantics.specs.Wired.{IsWired}
use Rattle.pt_paced_laws.specs.Ending.{most_rounds}
use Rattle.pt_types.specs.declared.air.Air.{Air}
use Rattle.pt_replay_laws.specs.ReplayRounds.{ReplayRound, IsQuiet, IsReplay}
use Rattle.pt_replay_laws.specs.ReplayState.{AllFinished, CanHappen, ReplayState, replay_at_start}

-- something can happen at some true time, unless the graph has no platforms
abbrev pub ReplaysBegin : Type 0
ReplaysBegin = (g : Graph) (air : Air) (rows : ℕ → List Row) → IsWired g → 0 < length g.platforms → (time : ℕ) × CanHappen g air (replay_at_start g rows) time

-- a replay keeps to the bound on the number of rounds that a paced run keeps to
abbrev pub ReplaysEnd : Type 0
ReplaysEnd = (g : Graph) (level : ℕ → ℕ) (air : Air) (rows : ℕ → List Row) (rounds : List (List VisitRecord)) (now : ℕ) (x : ReplayState) →
    IsWired g → AreLevels g level → FitRows g rows → IsReplay g level air rows rounds now x → length rounds ≤ most_rounds g rows

-- after a quiet round all platforms are finished, if none has a fault and nothing can happen after it
abbrev pub QuietEndsReplay : Type 0
QuietEndsReplay = (g : Graph) (level : ℕ → ℕ) (air : Air) (rows : ℕ → List Row) (rounds : List (List VisitRecord)) (now : ℕ) (x : ReplayState) (ms : List VisitRecord) (y : ReplayState) →
    IsWired g → AreLevels g level → FitRows g rows → IsReplay g level air rows rounds now x → ReplayRound g level air now (length g.platforms) 0 x ms y →
    Each (λ (m : VisitRecord). m.fault ≡ false) ms → IsQuiet x ms y → ((time : ℕ) → CanHappen g air y time → ⊥) → AllFinished g y
