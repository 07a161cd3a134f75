-- A replay within the stated bounds, of a program that can run, ends as its meaning says.
use Rattle.std.proofs.Common.{◌≡◌, ℕ, ◌<◌, Bool, true, List, ◌++◌, Option, Some, None, Result, Ok, Err, length, refl, sym, ap, subst, ◌∙◌, inr}
use Rattle.std.specs.Prelude.{◌↔◌}
use Rattle.std.proofs.lemmas.Option.{slice_get_within}
use Rattle.pt_io.specs.Causes.{Appends, Rose}
use Rattle.pt_types.specs.declared.graph.Graph.{Graph}
use Rattle.pt_types.specs.declared.firing.ActorFiring.{ActorFiring}
use Rattle.pt_blocks.specs.declared.blocks.Named.{Named}
use Rattle.pt_history.specs.declared.miss.Miss.{Miss}
use Rattle.pt_semantics.specs.Counts.{unit_firings}
use Rattle.pt_semantics.specs.Lists.{IsIn}
use Rattle.pt_semantics.specs.Meaning.{IsMeaning}
use Rattle.pt_semantics.specs.Parts.{parts}
use Rattle.pt_semantics.specs.Ranks.{AreRanks}
use Rattle.pt_semantics.proofs.Lookups.{none_some}
use Rattle.pt_semantics.specs.Tables.{tables_text}
use Rattle.pt_paced_laws.specs.Schedule.{IsMissedByMeaning}
use Rattle.pt_io.specs.Calls.{Contents, SourceCall, SinkCall}
use Rattle.pt_sensors.specs.Places.{of_run}
use Rattle.pt_types.specs.declared.air.Air.{Air}
use Rattle.pt_air.specs.declared.fault.AirFault.{AirFault}
use Rattle.pt_air.specs.AirOf.{air_of}
use Rattle.pt_run.specs.declared.fault.Fault.{Fault}
use Rattle.pt_run.specs.declared.fault.Fault.TheVariants as fault
use Rattle.pt_run.specs.Complete.{CanBegin, FitsClaims, StatusIsMeant}
use Rattle.pt_run.specs.Leaving.{RunWith}
use Rattle.pt_run.specs.InBounds.{CanReplay, DoAsPaced, IsCompleteInBounds}
use Rattle.pt_run.specs.Replaying.{LeavesReplay, OnAir, stop_of_replay}
use Rattle.pt_run.specs.Runs.{log_if}
use Rattle.pt_run.specs.Statuses.{status_of}
use Rattle.pt_words.specs.Grammar.{GraphFile, Order}
use Rattle.pt_run.specs.Reporting.{paced_run}
use Rattle.pt_run.specs.Written.{Leaves}
use Rattle.pt_run.proofs.ByFault.{Ends, EndsReplay, IsCause, is_before_last}
use Rattle.pt_run.proofs.Stages.{not_true}
use Rattle.pt_run.proofs.Begun.{only_unread}
use Rattle.pt_run.proofs.Complete.{agrees, by_misses, by_platform, meaning, ok_err, one_meaning, same_ok, this_graph}
use Rattle.pt_run.proofs.ReplayInBounds.{do_as_paced}
use Rattle.pt_run.proofs.Missed.{missed_in}
use Rattle.pt_sensor_files.specs.Bytes.{OfBytes}

module _ (contents : Contents) (blocks : List Named) (graph_file : GraphFile) (air : List ℕ) (g : Graph) (xs : List ActorFiring) (can : CanReplay contents blocks graph_file air g xs) where
  abbrev begins : CanBegin contents blocks graph_file g
  begins = can.runs.begins

  -- the recording is the one that the file says
  says : (h : Graph) → h ≡ g → (d : Result Air AirFault) → OfBytes (contents air) (λ bytes. air_of h bytes ≡ d) → Ok can.recorded ≡ d
  says h same d file =
      agrees (air_of g) (contents air) can.bytes (Ok can.recorded) d can.reported (subst (λ reported. OfBytes reported (λ bytes. air_of g bytes ≡ Ok can.recorded)) (sym can.reported) can.says)
      (subst (λ (z : Graph). OfBytes (contents air) (λ bytes. air_of z bytes ≡ d)) same file)

  module _ (left : Leaves) (log : Bool) (w : SinkCall) where
    -- of a replay that ran
    module _ (o : Option Fault) (k : RunWith contents blocks graph_file (OnAir contents air (LeavesReplay log o left w))) where
      same : k.plan.graph ≡ g
      same = this_graph contents blocks graph_file g begins k.plan.graph k.file

      recorded : k.over.fact.recorded ≡ can.recorded
      recorded = sym (same_ok {E = AirFault} can.recorded k.over.fact.recorded (says k.plan.graph same (Ok k.over.fact.recorded) k.over.fact.file))

      in_bounds : k.over.fact.recorded.breach ≡ None
      in_bounds = ap (λ (a : Air). a.breach) recorded ∙ can.in_bounds

      leaves : LeavesReplay log o left w k.plan (of_run k.plan.graph k.over.rows) k.over.fact.recorded
      leaves = k.over.fact.fact

      paced : DoAsPaced k.plan (of_run k.plan.graph k.over.rows) left.platforms (stop_of_replay o)
      paced = do_as_paced k.plan (of_run k.plan.graph k.over.rows) k.over.fact.recorded left.platforms (stop_of_replay o) leaves.replayed (k.over.fact.bounds.0 in_bounds)

      ranks : AreRanks k.plan.graph can.runs.means.rank
      ranks = subst (λ (z : Graph). AreRanks z can.runs.means.rank) (sym same) can.runs.means.ranks

      meant : IsMeaning k.plan.graph can.runs.means.rank (of_run k.plan.graph k.over.rows) xs
      meant = meaning contents blocks graph_file g begins xs can.runs.means k.plan k.over.rows same k.over.sensors

    -- of one that finished
    module _ (k : RunWith contents blocks graph_file (OnAir contents air (LeavesReplay log None left w))) where
      pub missed_in_air : (m : Miss) → IsIn m left.misses ↔ IsMissedByMeaning g xs m.actor m.tag m.reading m.limit
      missed_in_air m =
          let kept = missed_in k.plan (of_run k.plan.graph k.over.rows) left.platforms (leaves None k).replayed.all left.misses ((leaves None k).misses refl) m in
          let of_meaning = (paced None k).missed_as_meant refl can.runs.means.rank xs (ranks None k) (meant None k) m.actor m.tag m.reading m.limit in
          subst (λ (z : Graph). IsIn m left.misses ↔ IsMissedByMeaning z xs m.actor m.tag m.reading m.limit) (same None k)
          ((λ mem. of_meaning.0 (kept.0 mem)), (λ missed. kept.1 (of_meaning.1 missed)))

      few : FitsClaims g xs
      few = subst (λ (z : Graph). FitsClaims z xs) (same None k) ((paced None k).long can.runs.means.rank xs (ranks None k) (meant None k))

      pub tables_in_air : Appends w.written_before w.written_now (tables_text g xs ++ log_if log g left.platforms)
      tables_in_air =
          let puts = (leaves None k).written refl in
          let firings : puts.firings ≡ xs = one_meaning contents blocks graph_file g begins xs can.runs.means k.plan k.over.rows puts.firings (same None k) k.over.sensors k.over.admitted puts.meaning in
          subst (λ (z : Graph). Appends w.written_before w.written_now (tables_text z xs ++ log_if log z left.platforms)) (same None k)
          (subst (λ zs. Appends w.written_before w.written_now (tables_text k.plan.graph zs ++ log_if log k.plan.graph left.platforms)) firings puts.text)

    module _ (status : ℕ) (r : SourceCall) (reads : Rose r.before r.now → ⊥) (writes : Rose w.before w.now → ⊥) where
      stopped : (platform : ℕ) (k : RunWith contents blocks graph_file (OnAir contents air (LeavesReplay log (Some (fault.Long (Some platform))) left w))) → status ≡ 6 → StatusIsMeant status g xs
      stopped platform k is =
          let o : Option Fault = Some (fault.Long (Some platform)) in
          let over : g.claims < unit_firings g platform (parts g xs) = subst (λ (z : Graph). z.claims < unit_firings z platform (parts z xs)) (same o k) ((paced o k).long can.runs.means.rank xs (ranks o k) (meant o k)) in
          let view = (leaves o k).replayed.ends in
          let within : platform < length g.platforms = subst (λ (z : Graph). platform < length z.platforms) (same o k) (subst (λ n. platform < n) (leaves o k).replayed.all.count (slice_get_within left.platforms platform view.0 view.1)) in
          by_platform status g xs platform is within over

      unread : (f : Fault) → is_before_last f ≡ true → IsCause f left paced_run contents blocks graph_file r w → StatusIsMeant status g xs
      unread f before k = let (sensor, is, rose) = only_unread contents blocks graph_file g begins left r w f before k in absurd (reads rose)

      by_outcome : (o : Option Fault) → status ≡ status_of o left.misses → EndsReplay o left graph_file air log contents blocks r w → StatusIsMeant status g xs
      by_outcome None is k = by_misses status g xs left.misses is (few k) (missed_in_air k)
      by_outcome (Some fault.Write) is k = absurd (writes k.0)
      by_outcome (Some (fault.Long (Some platform))) is k = stopped platform k is
      by_outcome (Some (fault.LateAir platform actor tag reading limit row)) is k =
          let o : Option Fault = Some (fault.LateAir platform actor tag reading limit row) in
          absurd (none_some row (sym (in_bounds o k) ∙ (leaves o k).breach))
      by_outcome (Some (fault.Air f)) is k =
          absurd (ok_err can.recorded f (says k.1.plan.graph (this_graph contents blocks graph_file g begins k.1.plan.graph k.1.file) (Err f) k.1.over.fact))
      by_outcome (Some fault.ReadAir) is k = absurd (reads k.1.over.fact.rose)
      by_outcome (Some fault.Memory) is k = inr (inr (inr is))
      by_outcome (Some (fault.Graph f)) is k = unread (fault.Graph f) k.0 k.2
      by_outcome (Some (fault.Cycle actors)) is k = unread (fault.Cycle actors) k.0 k.2
      by_outcome (Some (fault.Infeasible send offset slack)) is k = unread (fault.Infeasible send offset slack) k.0 k.2
      by_outcome (Some (fault.Read sensor)) is k = unread (fault.Read sensor) k.0 k.2
      by_outcome (Some (fault.Sensor actor f)) is k = unread (fault.Sensor actor f) k.0 k.2
      by_outcome (Some (fault.LateRow actor row seen limit)) is k = unread (fault.LateRow actor row seen limit) k.0 k.2
      by_outcome (Some fault.Usage) is k = absurd (not_true k.0)
      by_outcome (Some (fault.Ring sends gain)) is k = absurd (not_true k.0)
      by_outcome (Some (fault.LateMessage platform actor tag reading limit)) is k = absurd (not_true k.0)
      by_outcome (Some (fault.Long None)) is k = absurd (not_true k.0)
      by_outcome (Some fault.ReadLog) is k = absurd (not_true k.0)
      by_outcome (Some (fault.Unlawful v)) is k = absurd (not_true k.0)

pub complete_in_bounds : (status : ℕ) (o : Option Fault) (left : Leaves) (order : Option Order) (contents : Contents) (blocks : List Named) (r : SourceCall) (w : SinkCall) → status ≡ status_of o left.misses → Ends o left order contents blocks r w → IsCompleteInBounds status order contents blocks r w
complete_in_bounds status o left order contents blocks r w is ends workers log graph_file air g xs words can reads writes =
    by_outcome contents blocks graph_file air g xs can left log w status r reads writes o is (subst (λ z. Ends o left z contents blocks r w) words ends)
