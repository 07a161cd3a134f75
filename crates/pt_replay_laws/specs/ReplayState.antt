-- All platforms together, by platforms whose clocks lag behind true time and links on which messages take their time.
use Rattle.std.specs.Prelude.{◌≡◌, ◌<◌, ◌≤◌, ◌⊎◌, [], ℕ, List, false, drop, length}
use Rattle.pt_tags.specs.declared.message.Message.{Message}
use Rattle.pt_types.specs.declared.graph.Graph.{Graph}
use Rattle.pt_types.specs.declared.rows.Row.{Row}
use Rattle.pt_semantics.specs.Closing.{on_link}
use Rattle.pt_semantics.specs.Linked.{IsFinished}
use Rattle.pt_semantics.specs.Lists.{IsIn}
use Rattle.pt_semantics.specs.Paced.{IsCandidate}
use Rattle.pt_semantics.specs.Platform.{State, opened}
use Rattle.pt_semantics.specs.Turn.{Turn}
use Rattle.pt_semantics.specs.Visits.{IsVisit, VisitRecord, RunState}
use Rattle.pt_types.specs.declared.air.Air.{Air}
use Rattle.pt_types.specs.declared.air.InAir.{InAir}
use Rattle.pt_semantics.specs.Arrivals.{AirwayView, empty_airway}
use Rattle.pt_semantics.specs.TrueTime.{come_on, put_link, reading_at, true_time}

-- all platforms together: their states, their turns one by one, and the messages on their way on each link
pub record ReplayState : Type 0 where
  pub at : ℕ → State
  pub did : ℕ → List Turn
  pub airways : ℕ → AirwayView

-- the platforms before the first turn
abbrev pub replay_at_start : Graph → (ℕ → List Row) → ReplayState
replay_at_start g rows = record { at = λ i. opened g i rows; did = λ i. []; airways = λ l. empty_airway }

-- all platforms are finished
abbrev pub AllFinished : Graph → ReplayState → Type 0
AllFinished g x = (i : ℕ) → i < length g.platforms → IsFinished g i (x.at i)

-- what platform i sees of it at a true time: of the messages on each link to it, those that have arrived, at most 64
abbrev pub come_to : Graph → ℕ → ℕ → ReplayState → RunState
come_to g i now x = record { at = x.at; did = x.did; on_way = λ l. come_on g i now l (x.airways l) }

-- the airway without these messages, its oldest ones
abbrev pub taken_off : List Message → AirwayView → AirwayView
taken_off ms a = record a { on_way = drop (length ms) a.on_way }

-- a visit at a true time: a visit of a platform, at the reading of its clock, with the messages that have come. What it takes
-- is no longer on its way, and what it sends is
pub record IsVisitAt (g : Graph) (level : ℕ → ℕ) (air : Air) (now : ℕ) (x : ReplayState) (m : VisitRecord) (y : ReplayState) : Type 0 where
  pub after : RunState
  pub visit : IsVisit g level 64 (λ l. 64) (reading_at air m.platform now) (come_to g m.platform now x) m after
  pub states : y.at ≡ after.at
  pub turns : y.did ≡ after.did
  pub airways : (l : ℕ) → y.airways l ≡ put_link air g now l (on_link l m.turn.sent) (taken_off (on_link l m.turn.taken) (x.airways l))

-- a true time at which something can happen: a platform that is not closed comes to a reading at which a row is seen, a unit is
-- claimed or the platform closes, or a message arrives
abbrev pub CanHappen : Graph → Air → ReplayState → ℕ → Type 0
CanHappen g air x now =
    ((i : ℕ) × (i < length g.platforms) × ((x.at i).closed ≡ false) × (reading : ℕ) × IsCandidate g i (x.at i) reading × (now ≡ true_time air i reading))
    ⊎ ((l : ℕ) × (l < length g.links) × (m : InAir) × IsIn m (x.airways l).on_way × (now ≡ m.arrives))

-- the least such time
abbrev pub IsNextTime : Graph → Air → ReplayState → ℕ → Type 0
IsNextTime g air x now = CanHappen g air x now × ((other : ℕ) → CanHappen g air x other → now ≤ other)
