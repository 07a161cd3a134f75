-- What an audit answers over known files.
use Rattle.std.proofs.Common.{◌≡◌, ◌⊎◌, ℕ, List, Option, Some, None, Result, Ok, Err, refl, sym, ap, subst, ◌∙◌, inl, inr}
use Rattle.pt_types.specs.declared.graph.Graph.{Graph}
use Rattle.pt_types.specs.declared.rows.Row.{Row}
use Rattle.pt_blocks.specs.declared.blocks.Named.{Named}
use Rattle.pt_graph_text.specs.declared.fault.GraphFault.{GraphFault}
use Rattle.pt_offsets.specs.Plans.{Parts}
use Rattle.pt_offsets.specs.Margins.{IsFirstInfeasible}
use Rattle.pt_semantics.specs.Cycles.{NoFreeCycle}
use Rattle.pt_sensor_files.specs.declared.recorded_fault.LateRows.TheVariants.{Refused}
use Rattle.pt_io.specs.Calls.{Contents, SourceCall, SinkCall}
use Rattle.pt_sensors.specs.Places.{of_run}
use Rattle.pt_sensor_files.specs.Recorded.{SensorFails, SensorLate}
use Rattle.pt_audit.specs.LawfulLogs.{IsLawfulLog}
use Rattle.pt_audit.specs.declared.verdict.Verdict.{Verdict}
use Rattle.pt_run.specs.declared.fault.Fault.{Fault}
use Rattle.pt_run.specs.declared.fault.Fault.TheVariants as fault
use Rattle.pt_run.specs.Auditing.{Accepts, IsUnlawful, OnLog, Refuses}
use Rattle.pt_run.specs.Complete.{CanBegin}
use Rattle.pt_run.proofs.ByCause.{CanAudit, WantsLog}
use Rattle.pt_run.specs.Leaving.{RunWith}
use Rattle.pt_words.specs.Grammar.{Order}
use Rattle.pt_run.specs.Written.{Leaves}
use Rattle.pt_run.proofs.ByFault.{EndsAudit}
use Rattle.pt_run.proofs.Stages.{not_true}
use Rattle.pt_run.proofs.Complete.{agrees, ok_err, same_ok, too_late}
use Rattle.pt_run.proofs.OneCause.{fails_all, late_all}
use Rattle.pt_run.proofs.OnePlan.{same_accepted, same_unlawful}
use Rattle.pt_run.proofs.RunsAgreeing.{same_rows}
use Rattle.pt_run.specs.GraphFiles.{graph_by}
use Rattle.pt_sensor_files.specs.Bytes.{OfBytes}

-- all was written, or a write failed
abbrev pub IsPut : Option Fault → Type 0
IsPut outcome = (outcome ≡ None) ⊎ (outcome ≡ Some fault.Write)

-- the answer of an audit over known files
pub data Audited (plan : Parts) (rows : ℕ → List Row) (bytes : List ℕ) (outcome : Option Fault) : Type 0 where
  wants : WantsLog outcome → Audited plan rows bytes outcome
  found : IsPut outcome → Accepts plan rows bytes → Audited plan rows bytes outcome
  refused : (v : Verdict) → outcome ≡ Some (fault.Unlawful v) → IsUnlawful plan rows bytes v → Audited plan rows bytes outcome

-- a fact of a content that is known
of_content : (content : Option (List ℕ)) (bytes : List ℕ) (Fact : List ℕ → Type 0) → content ≡ Some bytes → OfBytes content Fact → Fact bytes
of_content content bytes Fact is h = subst (λ c. OfBytes c Fact) is h

module _ (order : Option Order) (left : Leaves) (contents : Contents) (blocks : List Named) (r : SourceCall) (w : SinkCall) (plan : Parts) (rows : ℕ → List Row) (bytes : List ℕ) (can : CanAudit order contents blocks plan rows bytes) where
  abbrev begins : CanBegin contents blocks can.graph_file plan.graph
  begins = can.begins

  file : (d : Result Graph GraphFault) → OfBytes (contents can.graph_file.name) (λ bytes. graph_by blocks can.graph_file bytes ≡ d) → Ok plan.graph ≡ d
  file d other = agrees (graph_by blocks can.graph_file) (contents can.graph_file.name) begins.bytes (Ok plan.graph) d begins.reported (subst (λ z. OfBytes z (λ bytes. graph_by blocks can.graph_file bytes ≡ Ok plan.graph)) (sym begins.reported) begins.graph) other

  this_graph : (g : Graph) → OfBytes (contents can.graph_file.name) (λ bytes. graph_by blocks can.graph_file bytes ≡ Ok g) → plan.graph ≡ g
  this_graph g other = same_ok {E = GraphFault} plan.graph g (file (Ok g) other)

  module _ (Fact : Parts → (ℕ → List Row) → List ℕ → Type 0) (h : RunWith contents blocks can.graph_file (OnLog contents can.log Fact)) where
    graphs : plan.graph ≡ h.plan.graph
    graphs = this_graph h.plan.graph h.file

    over_rows : of_run h.plan.graph h.over.rows ≡ rows
    over_rows = same_rows contents plan.graph h.plan.graph begins.rows h.over.rows graphs begins.files begins.sensors h.over.sensors ∙ sym can.over

    found_fact : Fact h.plan rows bytes
    found_fact = subst (λ (rs : ℕ → List Row). Fact h.plan rs bytes) over_rows (of_content (contents can.log) bytes (Fact h.plan (of_run h.plan.graph h.over.rows)) can.reported h.over.fact)

  accepted_here : RunWith contents blocks can.graph_file (OnLog contents can.log Accepts) → Accepts plan rows bytes
  accepted_here h = same_accepted h.plan plan rows bytes h.over.admitted can.admitted (sym (graphs Accepts h)) (found_fact Accepts h)

  unlawful_here : (v : Verdict) → RunWith contents blocks can.graph_file (OnLog contents can.log (λ p rs bs. IsUnlawful p rs bs v)) → IsUnlawful plan rows bytes v
  unlawful_here v h = same_unlawful h.plan plan rows bytes h.over.admitted can.admitted (sym (graphs (λ p rs bs. IsUnlawful p rs bs v) h)) v (found_fact (λ p rs bs. IsUnlawful p rs bs v) h)

  pub audited : (o : Option Fault) → EndsAudit o left can.graph_file can.log contents blocks r w → Audited plan rows bytes o
  audited None k = found (inl refl) (accepted_here k.1)
  audited (Some fault.Write) k = found (inr refl) (accepted_here k.1)
  audited (Some (fault.Unlawful v)) k = refused v refl (unlawful_here v k.1)
  audited (Some fault.ReadLog) k = wants (inr refl)
  audited (Some fault.Memory) k = wants (inl (inl (inl refl)))
  audited (Some (fault.Read None)) k = wants (inl (inl (inr refl)))
  audited (Some (fault.Read (Some actor))) k = wants (inl (inr (actor, refl)))
  audited (Some (fault.Graph f)) k = absurd (ok_err plan.graph f (file (Err f) k.2.0))
  audited (Some (fault.Cycle actors)) k =
      let (g, other, cause) = k.2.0 in
      let free = subst NoFreeCycle (this_graph g other) begins.no_free_cycle in
      absurd (free cause.0.first cause.0.edge cause.0.path cause.0.cycle cause.0.free)
  audited (Some (fault.Infeasible send offset slack)) k =
      let (g, other, cause) = k.2.0 in
      absurd (too_late plan.graph send slack offset begins.feasible (subst (λ (z : Graph). IsFirstInfeasible z send offset slack) (sym (this_graph g other)) cause.1.0))
  audited (Some (fault.Sensor actor f)) k =
      let (g, other, cause) = k.2.0 in
      absurd (fails_all contents plan.graph begins.files Refused actor f (subst (λ (z : Graph). SensorFails Refused contents z actor f) (sym (this_graph g other)) cause.1.1) (begins.rows, begins.sensors, begins.in_time))
  audited (Some (fault.LateRow actor row seen limit)) k =
      let (g, other, cause) = k.2.0 in
      absurd (late_all contents plan.graph begins.files actor row seen limit (subst (λ (z : Graph). SensorLate contents z actor row seen limit) (sym (this_graph g other)) cause.1.1) (begins.rows, begins.sensors, begins.in_time))
  audited (Some fault.Usage) k = absurd (not_true k.0)
  audited (Some (fault.Ring sends gain)) k = absurd (not_true k.0)
  audited (Some (fault.LateAir platform actor tag reading limit row)) k = absurd (not_true k.0)
  audited (Some (fault.Air e)) k = absurd (not_true k.0)
  audited (Some fault.ReadAir) k = absurd (not_true k.0)
  audited (Some (fault.LateMessage platform actor tag reading limit)) k = absurd (not_true k.0)
  audited (Some (fault.Long platform)) k = absurd (not_true k.0)

-- by what an audit answers
module _ (plan : Parts) (rows : ℕ → List Row) (bytes : List ℕ) (o : Option Fault) where
  pub finds_lawful : IsLawfulLog plan rows bytes → Audited plan rows bytes o → ((o ≡ None) ⊎ (o ≡ Some fault.Write)) ⊎ WantsLog o
  finds_lawful lawful (wants h) = inr h
  finds_lawful lawful (found put h) = inl put
  finds_lawful lawful (refused v is h) = absurd (h.never lawful)

  pub finds_unlawful : (IsLawfulLog plan rows bytes → ⊥) → Audited plan rows bytes o → ((v : Verdict) × Refuses plan rows bytes v × (o ≡ Some (fault.Unlawful v))) ⊎ WantsLog o
  finds_unlawful never (wants h) = inr h
  finds_unlawful never (found put h) = absurd (never h.lawful)
  finds_unlawful never (refused v is h) = inl (v, h.refuses, is)

  pub finds_verdict : (v : Verdict) → Refuses plan rows bytes v → Audited plan rows bytes o → (o ≡ Some (fault.Unlawful v)) ⊎ WantsLog o
  finds_verdict v refuses (wants h) = inr h
  finds_verdict v refuses (found put h) = absurd (h.only v refuses)
  finds_verdict v refuses (refused u is h) = inl (is ∙ ap (λ z. Some (fault.Unlawful z)) (sym (h.only v refuses)))
