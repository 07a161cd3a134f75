-- The platforms after a paced run.
use Rattle.std.specs.Prelude.{◌≡◌, ◌<◌, ◌≤◌, ◌↔◌, ℕ, List, Option, None, Some, IfSome, false, length, slice_get}
use Rattle.pt_types.specs.declared.graph.Graph.{Graph}
use Rattle.pt_types.specs.declared.rows.Row.{Row}
use Rattle.pt_semantics.specs.Counts.{unit_firings}
use Rattle.pt_semantics.specs.History.{LegalOnTime}
use Rattle.pt_semantics.specs.Kept.{kept}
use Rattle.pt_semantics.specs.Linked.{AreLinked, AreMatched}
use Rattle.pt_semantics.specs.Lists.{Each, IsIn}
use Rattle.pt_semantics.specs.Meaning.{ActorFiring, IsMeaning}
use Rattle.pt_semantics.specs.Parts.{parts}
use Rattle.pt_semantics.specs.Platform.{opened}
use Rattle.pt_semantics.specs.Ranks.{AreRanks}
use Rattle.pt_semantics.specs.Rounds.{IsWholeRun}
use Rattle.pt_semantics.specs.Rows.{FitRows}
use Rattle.pt_semantics.specs.Visits.{VisitRecord, RunState}
use Rattle.pt_paced_laws.specs.Schedule.{AreAllClaimed, AreClaimedAsMeant, AreMissedAsMeant, IsOnSchedule, SendsWithinSlack}
use Rattle.pt_causality.specs.Ranked.{rank_of}
use Rattle.pt_offsets.specs.Plans.{IsAdmitted, Parts}
use Rattle.pt_turn.specs.declared.fault.TurnFault.{TurnFault}
use Rattle.pt_turn.specs.declared.fault.TurnFault.TheVariants.{Long}
use Rattle.pt_turn.specs.Platforms.{PlatformView, state_at}
use Rattle.pt_turn.specs.All.{AreAll, histories_of}
use Rattle.pt_engine.specs.Asked.{EndsAt}

-- the platforms are as a whole paced run leaves them: their recorded turns and states are those of its rounds, and a platform
-- has a fault exactly if one of its turns in the last round had
pub record IsAfter (plan : Parts) (rows : ℕ → List Row) (level : ℕ → ℕ) (platforms : List PlatformView) : Type 0 where
  pub together : RunState
  pub run : IsWholeRun plan.graph level rows together
  pub kept_turns : (i : ℕ) (v : PlatformView) → slice_get platforms i ≡ Some v → v.turns ≡ kept (together.did i)
  pub states : (i : ℕ) (v : PlatformView) → slice_get platforms i ≡ Some v → together.at i ≡ state_at v
  pub faults : (i : ℕ) (v : PlatformView) → slice_get platforms i ≡ Some v → (v.fault ≡ None) ↔ ((m : VisitRecord) → IsIn m run.made → m.platform ≡ i → m.fault ≡ false)

-- the meaning has more firings of units on the platform with the fault than it may claim; or, without a fault, on no platform
abbrev pub IsLongOn : Graph → List ActorFiring → Option (ℕ × TurnFault) → Type 0
IsLongOn g xs None = (i : ℕ) → i < length g.platforms → unit_firings g i (parts g xs) ≤ g.claims
IsLongOn g xs (Some f) = g.claims < unit_firings g f.0 (parts g xs)

-- a fact about the meaning of a graph and its rows
abbrev pub InMeaning : Graph → (ℕ → List Row) → (List ActorFiring → Type 0) → Type 0
InMeaning g rows Fact = (rank : ℕ → ℕ) (xs : List ActorFiring) → AreRanks g rank → IsMeaning g rank rows xs → Fact xs

-- all platforms of a plan, after a paced run over these rows
pub record IsOutcome (plan : Parts) (level : ℕ → ℕ) (rows : ℕ → List Row) (platforms : List PlatformView) (fault : Option (ℕ × TurnFault)) : Type 0 where
  pub admitted : IsAdmitted plan
  pub fit : FitRows plan.graph rows
  pub all : AreAll plan rows platforms
  pub after : IsAfter plan rows level platforms
  -- without a fault all platforms are finished; otherwise this is the first with a fault, and it made all its claims
  pub ends : EndsAt plan.graph platforms fault
  pub all_claims_made : IfSome fault (λ (f : ℕ × TurnFault). f.1 ≡ Long)
  -- all messages taken were sent, and if the platforms are finished, all sent were taken
  pub matched : AreMatched plan.graph (histories_of platforms)
  pub linked : fault ≡ None → AreLinked plan.graph (histories_of platforms)
  -- no message is late: the recorded turns lead from the opening to the state, and none took a late one
  pub none_late : (i : ℕ) (v : PlatformView) → slice_get platforms i ≡ Some v → LegalOnTime plan.graph level i (opened plan.graph i rows) v.turns (state_at v)
  -- each claim is made at exactly the paced reading of its unit and tag, and no message is sent past its sender's slack
  pub on_schedule : (i : ℕ) (v : PlatformView) → slice_get platforms i ≡ Some v → Each (IsOnSchedule plan.graph) v.turns
  pub within_slack : (i : ℕ) (v : PlatformView) → slice_get platforms i ≡ Some v → Each (SendsWithinSlack plan.graph) v.turns
  -- the graph has a meaning with these rows
  pub meaning : (xs : List ActorFiring) × IsMeaning plan.graph (rank_of plan.ranks) rows xs
  -- each unit's claims are the first of its parts of the meaning, and all of them if the platforms are finished
  pub claimed_as_meant : InMeaning plan.graph rows (λ xs. AreClaimedAsMeant plan.graph xs (histories_of platforms))
  pub all_claimed : fault ≡ None → InMeaning plan.graph rows (λ xs. AreAllClaimed plan.graph xs (histories_of platforms))
  -- and then what they missed depends on the meaning and the paced readings alone
  pub missed_as_meant : fault ≡ None → InMeaning plan.graph rows (λ xs. AreMissedAsMeant plan.graph xs (histories_of platforms))
  pub long : InMeaning plan.graph rows (λ xs. IsLongOn plan.graph xs fault)
