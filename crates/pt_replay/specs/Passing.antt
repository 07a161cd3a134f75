-- The effect of one visit and of one round on the engine's platforms, airways and results.
use Rattle.std.specs.Prelude.{◌≡◌, ◌<◌, ◌≤◌, ◌⊎◌, ◌↔◌, [], ℕ, Bool, List, None, false, length, slice_get, Some, true}
use Rattle.pt_tags.specs.declared.message.Message.{Message}
use Rattle.pt_types.specs.declared.firing.Done.{Done}
use Rattle.pt_types.specs.declared.graph.Graph.{Graph}
use Rattle.pt_types.specs.declared.rows.Row.{Row}
use Rattle.pt_causality.specs.Ranked.{level_of}
use Rattle.pt_semantics.specs.Lists.{Each, IsIn}
use Rattle.pt_semantics.specs.Rows.{FitRows}
use Rattle.pt_semantics.specs.Turn.{is_quiet}
use Rattle.pt_semantics.specs.Visits.{VisitRecord}
use Rattle.pt_types.specs.declared.air.Air.{Air}
use Rattle.pt_semantics.specs.Arrivals.{AirwayView}
use Rattle.pt_offsets.specs.Plans.{IsAdmitted, Parts}
use Rattle.pt_turn.specs.Platforms.{PlatformView}
use Rattle.pt_turn.specs.Turned.{is_late}
use Rattle.pt_replay.specs.Visits.Visits.{WasVisitedAt}
use Rattle.pt_replay_laws.specs.ReplayRounds.{ReplayRound, IsQuiet, IsReplay}
use Rattle.pt_replay_laws.specs.ReplayState.{ReplayState}
use Rattle.pt_engine.specs.Asked.{HaveNoFault}
use Rattle.pt_engine.specs.Shown.{is_fault}
use Rattle.pt_replay.specs.Shown.{AreShownInReplay}

-- there is an empty pipe for each link
abbrev pub PipesAreEmpty : Graph → List (List Message) → Type 0
PipesAreEmpty g pipes = (length pipes ≡ length g.links) × Each (λ pipe. pipe ≡ []) pipes

-- a platform was visited, and `still` says whether it did nothing and did not close
pub record WasVisitedInRound (air : Air) (now : ℕ) (dones results : List Done) (old new : PlatformView) (before after : List AirwayView) (still : Bool) : Type 0 where
  pub visit : WasVisitedAt air now dones results old new before after
  pub still_is : (still ≡ true) ↔ ((is_quiet visit.visited.turn ≡ true) × (new.closed ≡ old.closed))

-- the platforms, airways and results are as in a replayed run before a round at a true time, after `count` rounds
pub record IsBeforeRound (plan : Parts) (rows : ℕ → List Row) (air : Air) (count now : ℕ) (platforms : List PlatformView) (airways : List AirwayView) (results : List (List Done)) : Type 0 where
  pub admitted : IsAdmitted plan
  pub fit : FitRows plan.graph rows
  pub transits : length air.transits ≡ length plan.graph.links
  pub rounds : List (List VisitRecord)
  pub rounds_made : length rounds ≡ count
  pub state : ReplayState
  pub run : IsReplay plan.graph (level_of plan.ranks) air rows rounds now state
  pub shown : AreShownInReplay plan rows state platforms airways results
  pub no_fault : HaveNoFault platforms

-- the turn of platform i in this round had a fault
abbrev pub HasAnswered : List VisitRecord → ℕ → Type 0
HasAnswered made i = (turn : VisitRecord) × IsIn turn made × (turn.platform ≡ i) × (turn.fault ≡ true)

-- the first n platforms are done in a round that began at `before`
pub record HavePassed (plan : Parts) (rows : ℕ → List Row) (air : Air) (now : ℕ) (before : ReplayState) (n : ℕ) (platforms : List PlatformView) (airways : List AirwayView) (results : List (List Done)) (quiet : Bool) : Type 0 where
  pub made : List VisitRecord
  pub state : ReplayState
  pub round : ReplayRound plan.graph (level_of plan.ranks) air now n 0 before made state
  pub shown : AreShownInReplay plan rows state platforms airways results
  pub rest_stays : (j : ℕ) → n ≤ j → state.at j ≡ before.at j
  pub is_quiet_round : quiet ≡ true → IsQuiet before made state
  pub no_quiet_round : quiet ≡ false → ((m : VisitRecord) × IsIn m made × (is_quiet m.turn ≡ false)) ⊎ ((j : ℕ) × (j < n) × ((state.at j).closed ≡ (before.at j).closed → ⊥))
  pub faults : (j : ℕ) (v : PlatformView) → slice_get platforms j ≡ Some v → (v.fault ≡ None) ⊎ ((j < n) × HasAnswered made j)
  pub fine : HaveNoFault platforms → Each (λ (m : VisitRecord). m.fault ≡ false) made
  pub answered : (j : ℕ) (v : PlatformView) → slice_get platforms j ≡ Some v → (m : VisitRecord) → IsIn m made → m.platform ≡ j → (m.fault ≡ is_fault v.fault) × (m.late ≡ is_late v.fault)
