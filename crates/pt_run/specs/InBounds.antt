-- What holds of a replay whose recording breaks no stated bound: it does what the paced run does.
use Rattle.std.specs.Prelude.{◌≡◌, ◌↔◌, ◌++◌, ℕ, Bool, List, None, Ok, Option, Some}
use Rattle.pt_io.specs.Causes.{Appends, Rose}
use Rattle.pt_types.specs.declared.graph.Graph.{Graph}
use Rattle.pt_types.specs.declared.rows.Row.{Row}
use Rattle.pt_types.specs.declared.firing.ActorFiring.{ActorFiring}
use Rattle.pt_blocks.specs.declared.blocks.Named.{Named}
use Rattle.pt_history.specs.declared.miss.Miss.{Miss}
use Rattle.pt_semantics.specs.History.{LegalOnTime}
use Rattle.pt_semantics.specs.Lists.{Each, IsIn}
use Rattle.pt_semantics.specs.Platform.{opened}
use Rattle.pt_semantics.specs.Tables.{tables_text}
use Rattle.pt_paced_laws.specs.Schedule.{AreAllClaimed, AreClaimedAsMeant, AreMissedAsMeant, IsOnSchedule, SendsWithinSlack}
use Rattle.pt_causality.specs.Ranked.{level_of}
use Rattle.pt_offsets.specs.Plans.{Parts}
use Rattle.pt_turn.specs.declared.fault.TurnFault.{TurnFault}
use Rattle.pt_turn.specs.All.{histories_of}
use Rattle.pt_turn.specs.Platforms.{PlatformView, state_at}
use Rattle.pt_rounds.specs.Outcome.{InMeaning, IsLongOn}
use Rattle.pt_io.specs.Calls.{Contents, SourceCall, SinkCall}
use Rattle.pt_words.specs.declared.orders.ClockChoice.TheVariants.{Paced}
use Rattle.pt_types.specs.declared.air.Air.{Air}
use Rattle.pt_air.specs.AirOf.{air_of}
use Rattle.pt_run.specs.declared.fault.Fault.{Fault}
use Rattle.pt_words.specs.declared.orders.Command.TheVariants.{Run}
use Rattle.pt_run.specs.Complete.{CanRun, StatusIsMeant}
use Rattle.pt_run.specs.Due.{Answer, IsDue}
use Rattle.pt_run.specs.Readings.{EachOf}
use Rattle.pt_run.specs.Replaying.{LeavesReplay, OnAir, stop_of_replay}
use Rattle.pt_run.specs.Runs.{log_if}
use Rattle.pt_words.specs.Grammar.{GraphFile, Order, over, replay}
use Rattle.pt_run.specs.Written.{Leaves}

-- the histories of these platforms keep the paced schedule and do what the meaning does, until they are finished or this platform
-- has needed more claims than it may make
pub record DoAsPaced (plan : Parts) (rows : ℕ → List Row) (platforms : List PlatformView) (stop : Option (ℕ × TurnFault)) : Type 0 where
  -- no message is late, each claim is made at exactly the paced reading of its unit and tag, and no message is sent past its
  -- sender's slack
  pub none_late : EachOf platforms (λ i v. LegalOnTime plan.graph (level_of plan.ranks) i (opened plan.graph i rows) v.turns (state_at v))
  pub on_schedule : EachOf platforms (λ i v. Each (IsOnSchedule plan.graph) v.turns)
  pub within_slack : EachOf platforms (λ i v. Each (SendsWithinSlack plan.graph) v.turns)
  -- each unit's claims are the first of its parts of the meaning, and all of them if the platforms are finished; and then what they
  -- missed depends on the meaning and the paced readings alone
  pub claimed_as_meant : InMeaning plan.graph rows (λ xs. AreClaimedAsMeant plan.graph xs (histories_of platforms))
  pub all_claimed : stop ≡ None → InMeaning plan.graph rows (λ xs. AreAllClaimed plan.graph xs (histories_of platforms))
  pub missed_as_meant : stop ≡ None → InMeaning plan.graph rows (λ xs. AreMissedAsMeant plan.graph xs (histories_of platforms))
  -- the meaning has more firings of units on that platform than it may claim; or, without one, on no platform
  pub long : InMeaning plan.graph rows (λ xs. IsLongOn plan.graph xs stop)

-- a replay does so if no row of its recording breaks a stated bound
abbrev pub ReplaysInBoundsDoAsPaced : Type 0
ReplaysInBoundsDoAsPaced = (contents : Contents) (air : List ℕ) (log : Bool) (outcome : Option Fault) (left : Leaves) (w : SinkCall) (plan : Parts) (rows : ℕ → List Row) →
    (on : OnAir contents air (LeavesReplay log outcome left w) plan rows) → on.recorded.breach ≡ None → DoAsPaced plan rows left.platforms (stop_of_replay outcome)

-- the files are known and a replay within the bounds can run: these firings are the meaning, and no row of the recording breaks a
-- stated bound
pub record CanReplay (contents : Contents) (blocks : List Named) (graph_file : GraphFile) (air : List ℕ) (g : Graph) (firings : List ActorFiring) : Type 0 where
  pub runs : CanRun contents blocks graph_file g firings
  pub bytes : List ℕ
  pub reported : contents air ≡ Some bytes
  pub recorded : Air
  pub says : air_of g bytes ≡ Ok recorded
  pub in_bounds : recorded.breach ≡ None

-- such a replay ends as the meaning says, as a paced run does, if neither the source's nor the sink's count of faults rose
abbrev pub IsCompleteInBounds : ℕ → Option Order → Contents → List Named → SourceCall → SinkCall → Type 0
IsCompleteInBounds status order contents blocks r w = (workers : ℕ) (log : Bool) (graph_file : GraphFile) (air : List ℕ) (g : Graph) (firings : List ActorFiring) →
    order ≡ Some (replay graph_file air workers log) → CanReplay contents blocks graph_file air g firings → (Rose r.before r.now → ⊥) → (Rose w.before w.now → ⊥) → StatusIsMeant status g firings

-- a replay and a run of this graph each write the tables of these firings, with the log if it is asked for, and miss the same
pub record WriteAlike (g : Graph) (firings : List ActorFiring) (log logged : Bool) (a b : Answer) : Type 0 where
  pub replayed : Appends a.wrote.written_before a.wrote.written_now (tables_text g firings ++ log_if log g a.left.platforms)
  pub ran : Appends b.wrote.written_before b.wrote.written_now (tables_text g firings ++ log_if logged g b.left.platforms)
  pub misses : (m : Miss) → IsIn m a.left.misses ↔ IsIn m b.left.misses

-- so do a replay within the bounds and a paced run over the same files, if both end without a fault
abbrev pub ReplaysInBoundsAgreeWithRuns : Type 0
ReplaysInBoundsAgreeWithRuns = (contents : Contents) (blocks : List Named) (graph_file : GraphFile) (air : List ℕ) (g : Graph) (firings : List ActorFiring) (workers others : ℕ) (log logged : Bool) (a b : Answer) → CanReplay contents blocks graph_file air g firings → a.fault ≡ None → b.fault ≡ None →
    IsDue (Some (replay graph_file air workers log)) contents blocks a → IsDue (Some (over (Run others Paced logged) graph_file)) contents blocks b → WriteAlike g firings log logged a b
