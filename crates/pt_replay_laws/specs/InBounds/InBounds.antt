-- What a replayed run does whose recorded network keeps to the stated bounds.
use Rattle.std.specs.Prelude.{◌≡◌, ◌<◌, ℕ, ℤ, List, Option, false, length, true}
use Rattle.pt_types.specs.declared.graph.Graph.{Graph}
use Rattle.pt_types.specs.declared.graph.Unit.{Unit}
use Rattle.pt_types.specs.declared.rows.Row.{Row}
use Rattle.pt_semantics.specs.Counts.{unit_firings}
use Rattle.pt_semantics.specs.History.{LegalOnTime}
use Rattle.pt_semantics.specs.Lists.{Each}
use Rattle.pt_semantics.specs.Offsets.{HasOffset, IsFeasible}
use Rattle.pt_semantics.specs.Parts.{parts}
use Rattle.pt_semantics.specs.Platform.{opened}
use Rattle.pt_semantics.specs.Ranks.{AreLevels}
use Rattle.pt_semantics.specs.Rows.{FitRows}
use Rattle.pt_semantics.specs.Visits.{VisitRecord, RunState}
use Rattle.pt_semantics.specs.Wired.{IsWired}
use Rattle.pt_paced_laws.specs.NearClocks.{KeepsPace, OfMeaning}
use Rattle.pt_types.specs.declared.air.Air.{Air}
use Rattle.pt_semantics.specs.RecordedTimes.{KeepsBounds}
use Rattle.pt_replay_laws.specs.Between.{under_way}
use Rattle.pt_replay_laws.specs.ReplayRounds.{IsReplayInRound, IsWholeReplay}
use Rattle.pt_replay_laws.specs.ReplayState.{ReplayState}

-- a graph that can run, its rows, and recorded times within the bounds that it states
pub record IsInBounds (g : Graph) (level : ℕ → ℕ) (air : Air) (rows : ℕ → List Row) : Type 0 where
  pub wired : IsWired g
  pub levels : AreLevels g level
  pub fit : FitRows g rows
  pub feasible : IsFeasible g
  pub offset : Unit → Option ℤ
  pub offsets : (u : Unit) → HasOffset g u (offset u)
  pub bounds : KeepsBounds g air

-- the platforms and the messages on their way, without their arrivals
abbrev pub without_arrivals : ReplayState → RunState
without_arrivals x = record { at = x.at; did = x.did; on_way = under_way x }

-- up to any point in any round no turn took a late message
abbrev pub NoneIsLateInBounds : Type 0
NoneIsLateInBounds = (g : Graph) (level : ℕ → ℕ) (air : Air) (rows : ℕ → List Row) (rounds : List (List VisitRecord)) (now n : ℕ) (ms : List VisitRecord) (y : ReplayState) →
    IsInBounds g level air rows → IsReplayInRound g level air rows rounds now n ms y →
    Each (λ (m : VisitRecord). m.late ≡ false) ms × ((p : ℕ) → p < length g.platforms → LegalOnTime g level p (opened g p rows) (y.did p) (y.at p))

-- a platform with a fault has more firings of units in the meaning than it may claim
abbrev pub FaultsInBoundsAreLong : Type 0
FaultsInBoundsAreLong = (g : Graph) (level : ℕ → ℕ) (air : Air) (rows : ℕ → List Row) (rounds : List (List VisitRecord)) (now n : ℕ) (ms : List VisitRecord) (y : ReplayState) →
    IsInBounds g level air rows → IsReplayInRound g level air rows rounds now n ms y →
    OfMeaning g rows (λ xs. Each (λ (m : VisitRecord). m.fault ≡ true → g.claims < unit_firings g m.platform (parts g xs)) ms)

-- a whole replayed run keeps the paced schedule, and does what the meaning does
abbrev pub ReplaysInBoundsKeepPace : Type 0
ReplaysInBoundsKeepPace = (g : Graph) (level : ℕ → ℕ) (air : Air) (rows : ℕ → List Row) (y : ReplayState) →
    IsInBounds g level air rows → IsWholeReplay g level air rows y → KeepsPace g level rows (without_arrivals y)
