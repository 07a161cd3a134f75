-- The effect of one visit and of one round on the engine's platforms, pipes and results.
use Rattle.std.specs.Prelude.{◌≡◌, ◌<◌, ◌≤◌, ◌⊎◌, ◌↔◌, ℕ, Bool, List, None, Some, false, length, slice_get, true}
use Rattle.pt_tags.specs.declared.message.Message.{Message}
use Rattle.pt_types.specs.declared.firing.Done.{Done}
use Rattle.pt_types.specs.declared.rows.Row.{Row}
use Rattle.pt_causality.specs.Ranked.{level_of}
use Rattle.pt_semantics.specs.Lists.{Each, IsIn}
use Rattle.pt_semantics.specs.Rounds.{IsPacedRun, IsQuietRound, Round}
use Rattle.pt_semantics.specs.Rows.{FitRows}
use Rattle.pt_semantics.specs.Turn.{is_quiet}
use Rattle.pt_semantics.specs.Visits.{VisitRecord, RunState}
use Rattle.pt_offsets.specs.Plans.{IsAdmitted, Parts}
use Rattle.pt_turn.specs.declared.fault.TurnFault.TheVariants.{Long}
use Rattle.pt_turn.specs.Platforms.{PlatformView}
use Rattle.pt_visits.specs.Visited.{IsVisited}
use Rattle.pt_engine.specs.Asked.{HaveNoFault}
use Rattle.pt_engine.specs.Shown.{AreShown}

-- a platform was visited, and `still` says whether it did nothing and did not close
pub record WasVisitedInRound (r : ℕ) (dones results : List Done) (old new : PlatformView) (pipes piped : List (List Message)) (still : Bool) : Type 0 where
  pub visited : IsVisited 64 r dones results old new pipes piped
  pub still_is : (still ≡ true) ↔ ((is_quiet visited.turn ≡ true) × (new.closed ≡ old.closed))

-- the platforms, pipes and results are as in a paced run before a round at reading c, after `count` rounds
pub record IsBeforeRound (plan : Parts) (rows : ℕ → List Row) (count c : ℕ) (platforms : List PlatformView) (pipes : List (List Message)) (results : List (List Done)) : Type 0 where
  pub admitted : IsAdmitted plan
  pub fit : FitRows plan.graph rows
  pub rounds : List (List VisitRecord)
  pub rounds_made : length rounds ≡ count
  pub together : RunState
  pub run : IsPacedRun plan.graph (level_of plan.ranks) rows rounds c together
  pub shown : AreShown plan rows together platforms pipes results
  pub no_fault : HaveNoFault platforms

-- platform i has the fault that it made all its claims, and its turn in this round returned it
pub record IsLong (made : List VisitRecord) (i : ℕ) (v : PlatformView) : Type 0 where
  pub all_claims : v.fault ≡ Some Long
  pub turn : VisitRecord
  pub there : IsIn turn made
  pub platform : turn.platform ≡ i
  pub answers : turn.fault ≡ true

-- the first n platforms are done in a round that began at `before`
pub record HavePassed (plan : Parts) (rows : ℕ → List Row) (c : ℕ) (before : RunState) (n : ℕ) (platforms : List PlatformView) (pipes : List (List Message)) (results : List (List Done)) (quiet : Bool) : Type 0 where
  pub made : List VisitRecord
  pub together : RunState
  pub round : Round plan.graph (level_of plan.ranks) c n 0 before made together
  pub shown : AreShown plan rows together platforms pipes results
  pub rest_stays : (j : ℕ) → n ≤ j → together.at j ≡ before.at j
  pub is_quiet_round : quiet ≡ true → IsQuietRound before made together
  pub no_quiet_round : quiet ≡ false → ((m : VisitRecord) × IsIn m made × (is_quiet m.turn ≡ false)) ⊎ ((j : ℕ) × (j < n) × ((together.at j).closed ≡ (before.at j).closed → ⊥))
  pub faults : (j : ℕ) (v : PlatformView) → slice_get platforms j ≡ Some v → (v.fault ≡ None) ⊎ ((j < n) × IsLong made j v)
  pub fine : HaveNoFault platforms → Each (λ (m : VisitRecord). m.fault ≡ false) made
  pub answered : (j : ℕ) (v : PlatformView) → slice_get platforms j ≡ Some v → v.fault ≡ None → (m : VisitRecord) → IsIn m made → m.platform ≡ j → m.fault ≡ false
