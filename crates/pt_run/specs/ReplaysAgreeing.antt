-- Two replays of one recording over the same files.
use Rattle.std.specs.Prelude.{◌≡◌, ◌++◌, ℕ, Bool, List, None, Option, Some, true}
use Rattle.pt_io.specs.Causes.{Appends}
use Rattle.pt_types.specs.declared.graph.Graph.{Graph}
use Rattle.pt_types.specs.declared.firing.ActorFiring.{ActorFiring}
use Rattle.pt_types.specs.declared.rows.Row.{Row}
use Rattle.pt_blocks.specs.declared.blocks.Named.{Named}
use Rattle.pt_semantics.specs.Tables.{tables_text}
use Rattle.pt_causality.specs.Ranked.{level_of}
use Rattle.pt_offsets.specs.Plans.{Parts}
use Rattle.pt_turn.specs.declared.fault.TurnFault.{TurnFault}
use Rattle.pt_turn.specs.All.{histories_of}
use Rattle.pt_turn.specs.Platforms.{PlatformView}
use Rattle.pt_turn.specs.Turned.{is_late}
use Rattle.pt_io.specs.Calls.{Contents, SinkCall}
use Rattle.pt_types.specs.declared.air.Air.{Air}
use Rattle.pt_replay.specs.Outcome.{IsOutcome as IsReplayOutcome}
use Rattle.pt_run.specs.Agreeing.{ReportsAll}
use Rattle.pt_run.specs.Due.{Answer, IsDue}
use Rattle.pt_run.specs.Replaying.{has_replayed, stop_of_replay}
use Rattle.pt_run.specs.Runs.{log_if}
use Rattle.pt_words.specs.Grammar.{GraphFile, replay}

-- no platform stopped two replays, or the same one did: with the same fault, if both faults are a late message or neither is
abbrev pub AreStoppedAlike : Option (ℕ × TurnFault) → Option (ℕ × TurnFault) → Type 0
AreStoppedAlike None None = Unit {0}
AreStoppedAlike (Some f) (Some e) = (f.0 ≡ e.0) × (is_late (Some f.1) ≡ is_late (Some e.1) → f.1 ≡ e.1)
AreStoppedAlike _ _ = ⊥

-- replays of one graph over the same rows, with the same lags and transits, leave the same histories, late messages included, and
-- both finish or are stopped by the same platform
abbrev pub ReplaysAgree : Type 0
ReplaysAgree = (plan other : Parts) (rows : ℕ → List Row) (air : Air) (platforms others : List PlatformView) (fault stop : Option (ℕ × TurnFault)) → plan.graph ≡ other.graph →
    IsReplayOutcome plan (level_of plan.ranks) rows air platforms fault → IsReplayOutcome other (level_of other.ranks) rows air others stop → ((i : ℕ) → histories_of platforms i ≡ histories_of others i) × AreStoppedAlike fault stop

-- what was written is the tables of these firings, and these histories as the log if it is asked for
abbrev pub WritesTables : SinkCall → Graph → List ActorFiring → Bool → List PlatformView → Type 0
WritesTables w g firings log platforms = Appends w.written_before w.written_now (tables_text g firings ++ log_if log g platforms)

-- two replays leave the same histories and are stopped by the same platform, if any; and if both end without a fault, they miss
-- the same and write the same tables, and the same log if both are asked for it
pub record LeaveAlike (log logged : Bool) (a b : Answer) : Type 0 where
  pub histories : (i : ℕ) → histories_of a.left.platforms i ≡ histories_of b.left.platforms i
  pub stop : AreStoppedAlike (stop_of_replay a.fault) (stop_of_replay b.fault)
  pub misses : a.fault ≡ None → b.fault ≡ None → a.left.misses ≡ b.left.misses
  pub text : a.fault ≡ None → b.fault ≡ None → (g : Graph) × (firings : List ActorFiring) × WritesTables a.wrote g firings log a.left.platforms × WritesTables b.wrote g firings logged a.left.platforms

-- so do two calls of `replay` that ran over the same known files, whatever their numbers of workers and whether they write the log
abbrev pub ReplayCallsAgree : Type 0
ReplayCallsAgree = (workers others : ℕ) (log logged : Bool) (contents : Contents) (blocks : List Named) (graph_file : GraphFile) (air bytes : List ℕ) (a b : Answer) → ReportsAll contents blocks graph_file → contents air ≡ Some bytes →
    has_replayed a.fault ≡ true → has_replayed b.fault ≡ true →
    IsDue (Some (replay graph_file air workers log)) contents blocks a → IsDue (Some (replay graph_file air others logged)) contents blocks b → LeaveAlike log logged a b
