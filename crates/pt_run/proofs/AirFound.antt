-- What a replay answers over a known recording that has a fault.
use Rattle.std.proofs.Common.{◌≡◌, ◌⊎◌, ℕ, List, Option, Some, None, Result, Ok, Err, true, refl, sym, ap, subst, inl, inr}
use Rattle.pt_types.specs.declared.graph.Graph.{Graph}
use Rattle.pt_blocks.specs.declared.blocks.Named.{Named}
use Rattle.pt_io.specs.Calls.{Contents, SourceCall, SinkCall}
use Rattle.pt_types.specs.declared.air.Air.{Air}
use Rattle.pt_air.specs.declared.fault.AirFault.{AirFault}
use Rattle.pt_air.specs.AirOf.{air_of}
use Rattle.pt_run.specs.declared.fault.Fault.{Fault}
use Rattle.pt_run.specs.declared.fault.Fault.TheVariants as fault
use Rattle.pt_run.proofs.ByCause.{CanReadAir, WantsAir}
use Rattle.pt_run.specs.Leaving.{RunWith}
use Rattle.pt_run.specs.Replaying.{LeavesReplay, OnAir}
use Rattle.pt_words.specs.Grammar.{Order}
use Rattle.pt_run.specs.Reporting.{paced_run}
use Rattle.pt_run.specs.Written.{Leaves}
use Rattle.pt_run.proofs.ByFault.{EndsReplay, IsCause, is_before_last}
use Rattle.pt_run.proofs.Stages.{not_true}
use Rattle.pt_run.proofs.Begun.{only_unread}
use Rattle.pt_run.proofs.Complete.{agrees, ok_err, this_graph}
use Rattle.pt_run.proofs.OneCause.{same_err}
use Rattle.pt_run.specs.GraphFiles.{graph_by}
use Rattle.pt_sensor_files.specs.Bytes.{OfBytes}

-- a file that could not be read
unread : (sensor : Option ℕ) → WantsAir (Some (fault.Read sensor))
unread None = inl (inl (inr refl))
unread (Some actor) = inl (inr (actor, refl))

module _ (order : Option Order) (left : Leaves) (contents : Contents) (blocks : List Named) (r : SourceCall) (w : SinkCall) (g : Graph) (bytes : List ℕ) (f : AirFault) (can : CanReadAir order contents blocks g bytes) (is : air_of g bytes ≡ Err f) where
  here : (h : Graph) → OfBytes (contents can.graph_file.name) (λ content. graph_by blocks can.graph_file content ≡ Ok h) → h ≡ g
  here h file = this_graph contents blocks can.graph_file g can.begins h file

  -- what the recording says of the graph is that fault
  says : (h : Graph) → h ≡ g → (d : Result Air AirFault) → OfBytes (contents can.air) (λ content. air_of h content ≡ d) → Err f ≡ d
  says h same d file =
      agrees (air_of g) (contents can.air) bytes (Err f) d can.reported (subst (λ reported. OfBytes reported (λ content. air_of g content ≡ Err f)) (sym can.reported) is)
      (subst (λ (z : Graph). OfBytes (contents can.air) (λ content. air_of z content ≡ d)) same file)

  -- so no replay ran
  never_ran : (o : Option Fault) → RunWith contents blocks can.graph_file (OnAir contents can.air (LeavesReplay can.log o left w)) → ⊥
  never_ran o k = ok_err k.over.fact.recorded f (sym (says k.plan.graph (here k.plan.graph k.file) (Ok k.over.fact.recorded) k.over.fact.file))

  refused : (e : Fault) → is_before_last e ≡ true → IsCause e left paced_run contents blocks can.graph_file r w → WantsAir (Some e)
  refused e before k = let (sensor, same, rose) = only_unread contents blocks can.graph_file g can.begins left r w e before k in subst (λ z. WantsAir (Some z)) (sym same) (unread sensor)

  pub finds_air : (o : Option Fault) → EndsReplay o left can.graph_file can.air can.log contents blocks r w → (o ≡ Some (fault.Air f)) ⊎ WantsAir o
  finds_air None k = absurd (never_ran None k)
  finds_air (Some fault.Write) k = absurd (never_ran (Some fault.Write) k.1)
  finds_air (Some (fault.Long (Some platform))) k = absurd (never_ran (Some (fault.Long (Some platform))) k)
  finds_air (Some (fault.LateAir platform actor tag reading limit row)) k = absurd (never_ran (Some (fault.LateAir platform actor tag reading limit row)) k)
  finds_air (Some (fault.Air e)) k = inl (ap (λ z. Some (fault.Air z)) (sym (same_err {X = Air} f e (says k.1.plan.graph (here k.1.plan.graph k.1.file) (Err e) k.1.over.fact))))
  finds_air (Some fault.ReadAir) k = inr (inr refl)
  finds_air (Some fault.Memory) k = inr (inl (inl (inl refl)))
  finds_air (Some (fault.Graph e)) k = inr (refused (fault.Graph e) k.0 k.2)
  finds_air (Some (fault.Cycle actors)) k = inr (refused (fault.Cycle actors) k.0 k.2)
  finds_air (Some (fault.Infeasible send offset slack)) k = inr (refused (fault.Infeasible send offset slack) k.0 k.2)
  finds_air (Some (fault.Read sensor)) k = inr (unread sensor)
  finds_air (Some (fault.Sensor actor e)) k = inr (refused (fault.Sensor actor e) k.0 k.2)
  finds_air (Some (fault.LateRow actor row seen limit)) k = inr (refused (fault.LateRow actor row seen limit) k.0 k.2)
  finds_air (Some fault.Usage) k = absurd (not_true k.0)
  finds_air (Some (fault.Ring sends gain)) k = absurd (not_true k.0)
  finds_air (Some (fault.LateMessage platform actor tag reading limit)) k = absurd (not_true k.0)
  finds_air (Some (fault.Long None)) k = absurd (not_true k.0)
  finds_air (Some fault.ReadLog) k = absurd (not_true k.0)
  finds_air (Some (fault.Unlawful v)) k = absurd (not_true k.0)
