-- The platforms after a replayed run.
use Rattle.std.specs.Prelude.{◌≡◌, ◌↔◌, ℕ, List, None, Option, Some, false, slice_get}
use Rattle.pt_types.specs.declared.rows.Row.{Row}
use Rattle.pt_semantics.specs.History.{IsLegal}
use Rattle.pt_semantics.specs.Kept.{kept}
use Rattle.pt_semantics.specs.Linked.{AreLinked, AreMatched}
use Rattle.pt_semantics.specs.Lists.{IsIn}
use Rattle.pt_semantics.specs.Rows.{FitRows}
use Rattle.pt_semantics.specs.Visits.{VisitRecord}
use Rattle.pt_types.specs.declared.air.Air.{Air}
use Rattle.pt_offsets.specs.Plans.{IsAdmitted, Parts}
use Rattle.pt_turn.specs.declared.fault.TurnFault.{TurnFault}
use Rattle.pt_turn.specs.Platforms.{PlatformView, state_at}
use Rattle.pt_turn.specs.All.{AreAll, histories_of}
use Rattle.pt_turn.specs.Turned.{is_late}
use Rattle.pt_replay_laws.specs.ReplayRounds.{IsWholeReplay}
use Rattle.pt_replay_laws.specs.ReplayState.{ReplayState}
use Rattle.pt_engine.specs.Asked.{EndsAt}

-- the platforms are as a whole replayed run leaves them: their recorded turns and states are those of its rounds, a platform has
-- a fault exactly if one of its turns in the last round had, and that turn was late exactly if the fault is that of a late message
pub record IsAfterReplay (plan : Parts) (rows : ℕ → List Row) (level : ℕ → ℕ) (air : Air) (platforms : List PlatformView) : Type 0 where
  pub state : ReplayState
  pub run : IsWholeReplay plan.graph level air rows state
  pub kept_turns : (i : ℕ) (v : PlatformView) → slice_get platforms i ≡ Some v → v.turns ≡ kept (state.did i)
  pub states : (i : ℕ) (v : PlatformView) → slice_get platforms i ≡ Some v → state.at i ≡ state_at v
  pub faults : (i : ℕ) (v : PlatformView) → slice_get platforms i ≡ Some v → (v.fault ≡ None) ↔ ((m : VisitRecord) → IsIn m run.made → m.platform ≡ i → m.fault ≡ false)
  pub late : (i : ℕ) (v : PlatformView) → slice_get platforms i ≡ Some v → (m : VisitRecord) → IsIn m run.made → m.platform ≡ i → m.late ≡ is_late v.fault

-- all platforms of a plan, after a replayed run over these rows, with these lags and transits
pub record IsOutcome (plan : Parts) (level : ℕ → ℕ) (rows : ℕ → List Row) (air : Air) (platforms : List PlatformView) (fault : Option (ℕ × TurnFault)) : Type 0 where
  pub admitted : IsAdmitted plan
  pub fit : FitRows plan.graph rows
  pub all : AreAll plan rows platforms
  pub after : IsAfterReplay plan rows level air platforms
  -- without a fault all platforms are finished; otherwise this is the first with a fault, and its turns show the fault
  pub ends : EndsAt plan.graph platforms fault
  pub legal : (i : ℕ) (v : PlatformView) → slice_get platforms i ≡ Some v → IsLegal plan.graph level i rows v.turns (state_at v)
  -- all messages taken were sent, and if the platforms are finished, all sent were taken
  pub matched : AreMatched plan.graph (histories_of platforms)
  pub linked : fault ≡ None → AreLinked plan.graph (histories_of platforms)
