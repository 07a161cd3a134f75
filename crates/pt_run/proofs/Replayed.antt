-- What holds of a replay, of how it ends.
use Rattle.std.proofs.Common.{◌≡◌, ◌≢◌, [], ◌∷◌, ℕ, Bool, true, false, List, Option, Some, None, Ok, refl, sym, ap, subst, inl, inr}
use Rattle.pt_types.specs.declared.graph.Graph.{Graph}
use Rattle.pt_types.specs.declared.rows.Row.{Row}
use Rattle.pt_blocks.specs.declared.blocks.Named.{Named}
use Rattle.pt_semantics.proofs.Lookups.{none_some}
use Rattle.pt_causality.specs.Ranked.{level_of}
use Rattle.pt_offsets.specs.Plans.{IsAdmitted, Parts}
use Rattle.pt_turn.specs.declared.fault.TurnFault.{TurnFault}
use Rattle.pt_turn.specs.declared.fault.TurnFault.TheVariants as turn
use Rattle.pt_turn.specs.Platforms.{state_at}
use Rattle.pt_turn.specs.Running.{Shows}
use Rattle.pt_sensor_files.specs.declared.recorded_fault.LateRows.TheVariants.{Refused}
use Rattle.pt_io.specs.Calls.{Contents, SourceCall, SinkCall}
use Rattle.pt_sensors.specs.Places.{of_run}
use Rattle.pt_sensor_files.specs.Recorded.{AllPass, AreRows}
use Rattle.pt_types.specs.declared.air.Air.{Air}
use Rattle.pt_replay.specs.Outcome.{IsOutcome as IsReplayOutcome}
use Rattle.pt_run.specs.declared.fault.Fault.{Fault}
use Rattle.pt_run.specs.declared.fault.Fault.TheVariants as fault
use Rattle.pt_run.specs.Complete.{OnPlatform}
use Rattle.pt_run.specs.Due.{AfterAdmission, Answer, IsDue, IsDueTo, IsReplayedBy, RefusedWith, UnlessMemory}
use Rattle.pt_run.specs.Replaying.{IsReplayHeadline, ReplayHeadline, has_replayed}
use Rattle.pt_words.specs.Grammar.{GraphFile, Order, replay}
use Rattle.pt_run.specs.Written.{Leaves}
use Rattle.pt_run.proofs.ByFault.{EndsReplay}
use Rattle.pt_run.proofs.Stages.{not_true}
use Rattle.pt_run.proofs.Stages.{by_admission, by_file, with_fault}
use Rattle.pt_run.specs.GraphFiles.{graph_by}
use Rattle.pt_sensor_files.specs.Bytes.{OfBytes}

-- the platform that stopped a replay, as its recorded turns show
pub stopped_in_air : (left : Leaves) (plan : Parts) (rows : ℕ → List Row) (recorded : Air) (platform : ℕ) (f : TurnFault) → IsReplayOutcome plan (level_of plan.ranks) rows recorded left.platforms (Some (platform, f)) →
    OnPlatform left plan.graph platform (λ v. Shows plan.graph v.turns (state_at v) f)
stopped_in_air left plan rows recorded platform f outcome = let (v, at, is, shows, before) = outcome.ends in (v, at, ap (λ (p : Parts). p.graph) (outcome.all.plans platform v at), shows)

module _ (left : Leaves) (graph_file : GraphFile) (air : List ℕ) (log : Bool) (contents : Contents) (blocks : List Named) (r : SourceCall) (w : SinkCall) where
  -- with any fault but a failed write nothing is written
  pub unwritten_in_air : (f : Fault) → f ≢ fault.Write → EndsReplay (Some f) left graph_file air log contents blocks r w → w.written_now ≡ w.written_before
  unwritten_in_air fault.Write never k = absurd (never refl)
  unwritten_in_air fault.Memory never k = k.1
  unwritten_in_air (fault.Air f) never k = k.2
  unwritten_in_air fault.ReadAir never k = k.2
  unwritten_in_air (fault.Long (Some platform)) never k = k.over.fact.fact.unwritten (λ e. none_some (platform, turn.Long) (sym e))
  unwritten_in_air (fault.LateAir platform actor tag reading limit row) never k = k.over.fact.fact.unwritten (λ e. none_some (platform, turn.Late actor tag reading limit) (sym e))
  unwritten_in_air (fault.Graph f) never k = k.2.2
  unwritten_in_air (fault.Read None) never k = k.2.2
  unwritten_in_air (fault.Read (Some actor)) never k = k.2.1
  unwritten_in_air (fault.Cycle actors) never k = k.2.1
  unwritten_in_air (fault.Infeasible send offset slack) never k = k.2.1
  unwritten_in_air (fault.Sensor actor f) never k = k.2.1
  unwritten_in_air (fault.LateRow actor row seen limit) never k = k.2.1
  unwritten_in_air fault.Usage never k = absurd (not_true k.0)
  unwritten_in_air (fault.Ring sends gain) never k = absurd (not_true k.0)
  unwritten_in_air (fault.LateMessage platform actor tag reading limit) never k = absurd (not_true k.0)
  unwritten_in_air (fault.Long None) never k = absurd (not_true k.0)
  unwritten_in_air fault.ReadLog never k = absurd (not_true k.0)
  unwritten_in_air (fault.Unlawful v) never k = absurd (not_true k.0)

not_both : (b : Bool) → b ≡ true → b ≡ false → ⊥
not_both b e h = cc

module _ (contents : Contents) (blocks : List Named) (graph_file : GraphFile) (air : List ℕ) (workers : ℕ) (log : Bool) (a : Answer) where
  abbrev Holds : Option Fault → Type 0
  Holds o = ReplayHeadline o a.left log contents blocks graph_file air a.wrote

  refused : (f : Fault) → RefusedWith f a → has_replayed (Some f) ≡ false → Holds (Some f)
  refused f h none = record { run = λ e. absurd (not_both (has_replayed (Some f)) e none); nothing_else = λ e. (h.1, h.2) }

  replayed : (g : Graph) → OfBytes (contents graph_file.name) (λ bytes. graph_by blocks graph_file bytes ≡ Ok g) → (plan : Parts) (all : ℕ → List Row) → plan.graph ≡ g → IsAdmitted plan → AreRows contents plan.graph all → AllPass Refused plan.graph all →
      IsReplayedBy air log contents g (graph_file.name ∷ []) a plan (of_run plan.graph all) → Holds a.fault
  replayed g file plan all same admitted are in_time (inl h) = with_fault contents a Holds fault.ReadAir h.0 (refused fault.ReadAir h.0 refl)
  replayed g file plan all same admitted are in_time (inr (inl h)) = with_fault contents a Holds (fault.Air h.0) h.1 (refused (fault.Air h.0) h.1 refl)
  replayed g file plan all same admitted are in_time (inr (inr h)) = record {
    run = λ e. record {
      plan = plan;
      file = subst (λ z. OfBytes (contents graph_file.name) (λ bytes. graph_by blocks graph_file bytes ≡ Ok z)) (sym same) file;
      over = record { admitted = admitted; rows = all; sensors = are; in_time = in_time; fact = h.leaves };
    };
    nothing_else = λ e. absurd (not_both (has_replayed a.fault) h.ran e);
  }

  over_graph : (g : Graph) → OfBytes (contents graph_file.name) (λ bytes. graph_by blocks graph_file bytes ≡ Ok g) → AfterAdmission contents g (graph_file.name ∷ []) a (IsReplayedBy air log contents g (graph_file.name ∷ []) a) → Holds a.fault
  over_graph g file h =
      by_admission contents a Holds g (graph_file.name ∷ []) (IsReplayedBy air log contents g (graph_file.name ∷ []) a) h (λ actors is cycle. refused (fault.Cycle actors) is refl)
      (λ free send offset slack is first. refused (fault.Infeasible send offset slack) is refl) (λ free feasible sensor is unread. refused (fault.Read (Some sensor)) is refl)
      (λ free feasible sensor f is fails. refused (fault.Sensor sensor f) is refl) (λ free feasible actor row seen limit is tardy. refused (fault.LateRow actor row seen limit) is refl) (replayed g file)

  holds : UnlessMemory a (IsDueTo (replay graph_file air workers log) contents blocks) → Holds a.fault
  holds (inl h) = with_fault contents a Holds fault.Memory h (refused fault.Memory h refl)
  holds (inr h) =
      by_file contents a Holds blocks graph_file (λ g. AfterAdmission contents g (graph_file.name ∷ []) a (IsReplayedBy air log contents g (graph_file.name ∷ []) a)) h (λ is unread. refused (fault.Read None) is refl) (λ f is fails. refused (fault.Graph f) is refl) over_graph

pub replay_headline : (order : Option Order) (contents : Contents) (blocks : List Named) (a : Answer) → IsDue order contents blocks a → IsReplayHeadline a.fault a.left order contents blocks a.wrote
replay_headline order contents blocks a due workers log graph_file air words = holds contents blocks graph_file air workers log a (subst (λ z. IsDue z contents blocks a) words due)
