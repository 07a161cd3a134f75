-- A graph of which a run can begin is refused only where a file could not be read.
use Rattle.std.proofs.Common.{◌≡◌, ℕ, true, List, Option, Some, None, refl, subst}
use Rattle.pt_io.specs.Causes.{Rose}
use Rattle.pt_types.specs.declared.graph.Graph.{Graph}
use Rattle.pt_blocks.specs.declared.blocks.Named.{Named}
use Rattle.pt_causality.specs.Ranked.{IsFreeCycle}
use Rattle.pt_offsets.specs.Margins.{IsFirstInfeasible}
use Rattle.pt_sensor_files.specs.declared.recorded_fault.LateRows.TheVariants.{Refused}
use Rattle.pt_io.specs.Calls.{Contents, SourceCall, SinkCall}
use Rattle.pt_sensor_files.specs.Recorded.{SensorFails, SensorLate}
use Rattle.pt_run.specs.declared.fault.Fault.{Fault}
use Rattle.pt_run.specs.declared.fault.Fault.TheVariants as fault
use Rattle.pt_run.specs.Complete.{CanBegin}
use Rattle.pt_run.specs.Reporting.{paced_run}
use Rattle.pt_run.specs.Written.{Leaves}
use Rattle.pt_run.proofs.ByFault.{IsCause, is_before_last}
use Rattle.pt_run.proofs.Stages.{not_true}
use Rattle.pt_run.proofs.Complete.{no_fault, sensor_fails, sensor_late, this_graph, too_late}
use Rattle.pt_words.specs.Grammar.{GraphFile}

module _ (contents : Contents) (blocks : List Named) (graph_file : GraphFile) (g : Graph) (can : CanBegin contents blocks graph_file g) (left : Leaves) (r : SourceCall) (w : SinkCall) where
  pub only_unread : (f : Fault) → is_before_last f ≡ true → IsCause f left paced_run contents blocks graph_file r w → (sensor : Option ℕ) × (f ≡ fault.Read sensor) × Rose r.before r.now
  only_unread (fault.Graph f) before k = absurd (no_fault contents blocks graph_file g can f k.0)
  only_unread (fault.Cycle actors) before ((h, file, cause), same) =
      let cycle : IsFreeCycle g actors = subst (λ (z : Graph). IsFreeCycle z actors) (this_graph contents blocks graph_file g can h file) cause.0 in
      absurd (can.no_free_cycle cycle.first cycle.edge cycle.path cycle.cycle cycle.free)
  only_unread (fault.Infeasible send offset slack) before ((h, file, cause), same) =
      absurd (too_late g send slack offset can.feasible (subst (λ (z : Graph). IsFirstInfeasible z send offset slack) (this_graph contents blocks graph_file g can h file) cause.1.0))
  only_unread (fault.Read None) before k = (None, refl, k.0.rose)
  only_unread (fault.Read (Some actor)) before ((h, file, cause), same) = (Some actor, refl, cause.1.1.failed.rose)
  only_unread (fault.Sensor actor f) before ((h, file, cause), same) =
      absurd (sensor_fails contents blocks graph_file g can actor f (subst (λ (z : Graph). SensorFails Refused contents z actor f) (this_graph contents blocks graph_file g can h file) cause.1.1))
  only_unread (fault.LateRow actor row seen limit) before ((h, file, cause), same) =
      absurd (sensor_late contents blocks graph_file g can actor row seen limit (subst (λ (z : Graph). SensorLate contents z actor row seen limit) (this_graph contents blocks graph_file g can h file) cause.1.1))
  only_unread fault.Usage before k = absurd (not_true before)
  only_unread (fault.Ring sends gain) before k = absurd (not_true before)
  only_unread (fault.LateMessage platform actor tag reading limit) before k = absurd (not_true before)
  only_unread (fault.LateAir platform actor tag reading limit row) before k = absurd (not_true before)
  only_unread (fault.Long platform) before k = absurd (not_true before)
  only_unread fault.ReadLog before k = absurd (not_true before)
  only_unread (fault.Air f) before k = absurd (not_true before)
  only_unread fault.ReadAir before k = absurd (not_true before)
  only_unread (fault.Unlawful v) before k = absurd (not_true before)
  only_unread fault.Write before k = absurd (not_true before)
  only_unread fault.Memory before k = absurd (not_true before)
