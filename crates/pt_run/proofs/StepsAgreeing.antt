-- Two runs by clocks of the same steps, over the same files.
use Rattle.std.proofs.Common.{◌≡◌, ◌<◌, ◌≤◌, ◌^◌, ℕ, List, [], Option, None, Some, length, slice_get, sym, ap, subst, ◌∙◌, ⊎_elim}
use Rattle.std.specs.Prelude.{option_map, unwrap_or}
use Rattle.std.proofs.lemmas.Bool.{cases_lt}
use Rattle.std.proofs.lemmas.Option.{slice_get_past}
use Rattle.pt_io.specs.Clocks.{first_readings, step_reading}
use Rattle.pt_io.proofs.Stepping.{one_begins}
use Rattle.pt_types.specs.declared.graph.Graph.{Graph}
use Rattle.pt_types.specs.declared.rows.Row.{Row}
use Rattle.pt_semantics.specs.FixedOrder.{AreInTurn}
use Rattle.pt_semantics.specs.Ranks.{AreLevels}
use Rattle.pt_types.specs.Lookups.{platform_of}
use Rattle.pt_semantics.proofs.Acyclic.{levels_are_one}
use Rattle.pt_semantics.proofs.LawfulEdges.{wired}
use Rattle.pt_engine.proofs.Listed.{member}
use Rattle.pt_paced_laws.specs.FixedOrderTheorems.{AreOfOneClock}
use Rattle.pt_paced_laws.proofs.Counted.{counted}
use Rattle.pt_paced_laws.proofs.OneOrder.{fixed_order_is_one}
use Rattle.pt_causality.specs.Ranked.{level_of}
use Rattle.pt_offsets.specs.Plans.{Parts}
use Rattle.pt_turn.specs.declared.fault.TurnFault.{TurnFault}
use Rattle.pt_turn.specs.All.{histories_of}
use Rattle.pt_turn.specs.Platforms.{PlatformView}
use Rattle.pt_fixed_order.specs.Outcome.{LastVisitEnds}
use Rattle.pt_words.specs.declared.orders.ClockChoice.TheVariants.{Step}
use Rattle.pt_io.specs.Calls.{Contents}
use Rattle.pt_sensors.specs.Places.{of_run}
use Rattle.pt_run.specs.Readings.{RunClocks, ReadAs, ReadBy, ReadBySteps}
use Rattle.pt_run.specs.Runs.{IsOutcomeOver}
use Rattle.pt_run.specs.RunsAgreeing.{AreFewReadings, StepRunsAgree, ReportsSensors}
use Rattle.pt_run.proofs.OneStop.{StopAlike, stop_alike, stop_one}
use Rattle.pt_run.proofs.RunsAgreeing.{same_rows, texts_agree}

by_steps : (c : RunClocks) (start step : ℕ) (plan : Parts) (rows : ℕ → List Row) (platforms : List PlatformView) (fault : Option (ℕ × TurnFault)) → c.choice ≡ Step start step → ReadBy c plan rows platforms fault → ReadBySteps start step plan rows platforms fault
by_steps c start step plan rows platforms fault e read = subst (λ choice. ReadAs choice c plan rows platforms fault) e read

pub none_past : (platforms : List PlatformView) (i : ℕ) → length platforms ≤ i → histories_of platforms i ≡ []
none_past platforms i le = ap (λ (o : Option PlatformView). unwrap_or (option_map (λ (v : PlatformView). v.turns) o) []) (slice_get_past platforms i le)

both : (a b c d : List ℕ) → a ≡ c → b ≡ d → AreOfOneClock c d → AreOfOneClock a b
both a b c d ea eb h = subst (λ z. AreOfOneClock z b) (sym ea) (subst (λ z. AreOfOneClock c z) (sym eb) h)

-- platforms that were visited in turn, until the last visit ended the run so
abbrev EndsInTurn : Graph → (ℕ → ℕ) → (ℕ → List Row) → (ℕ → List ℕ) → List PlatformView → Option (ℕ × TurnFault) → Type 0
EndsInTurn g level rows readings platforms fault = (visits : AreInTurn g level rows readings 8 (histories_of platforms)) × LastVisitEnds visits.made fault

-- two runs of one graph over the same rows
module _ (start step : ℕ) (plan : Parts) (rows : ℕ → List Row) (platforms others : List PlatformView) (fault stop : Option (ℕ × TurnFault)) (count : length platforms ≡ length plan.graph.platforms) (many : length others ≡ length plan.graph.platforms)
    (few : AreFewReadings platforms) (h : ReadBySteps start step plan rows platforms fault) (readings : ℕ → List ℕ)
    (steps : (i : ℕ) (v : PlatformView) → slice_get others i ≡ Some v → readings i ≡ first_readings (step_reading start step) (length (readings i)))
    (in_turn : EndsInTurn plan.graph (level_of plan.ranks) rows readings others stop) where
  one_clock : (i : ℕ) → i < length plan.graph.platforms → AreOfOneClock (h.readings i) (readings i)
  one_clock i lt =
      let v = member platforms i (subst (λ n. i < n) (sym count) lt) in
      let w = member others i (subst (λ n. i < n) (sym many) lt) in
      both (h.readings i) (readings i) (first_readings (step_reading start step) (length (h.readings i))) (first_readings (step_reading start step) (length (readings i)))
      (h.steps i v.0 v.1 (subst (λ n. n < 2 ^ 64) (sym (counted v.0.turns (h.readings i) (h.read i v.0 v.1))) (few i v.0 v.1)))
      (steps i w.0 w.1) (one_begins (step_reading start step) (length (h.readings i)) (length (readings i)))

  one : (i : ℕ) → i < length plan.graph.platforms → (h.in_turn.visits.made ≡ in_turn.0.made) × (histories_of platforms i ≡ histories_of others i)
  one i lt = fixed_order_is_one plan.graph (level_of plan.ranks) rows h.readings readings 8 (histories_of platforms) (histories_of others) one_clock h.in_turn.visits in_turn.0 i lt

  same : (i : ℕ) → histories_of platforms i ≡ histories_of others i
  same i =
      ⊎_elim
      (λ (lt : i < length plan.graph.platforms). (one i lt).1)
      (λ (le : length plan.graph.platforms ≤ i). none_past platforms i (subst (λ n. n ≤ i) (sym count) le) ∙ sym (none_past others i (subst (λ n. n ≤ i) (sym many) le)))
      (cases_lt i (length plan.graph.platforms))

  alike : (i : ℕ) → i < length plan.graph.platforms → StopAlike fault stop
  alike i lt = stop_alike in_turn.0.made fault stop (subst (λ made. LastVisitEnds made fault) (one i lt).0 h.in_turn.last) in_turn.1

-- the histories of step runs, and the fault that stopped them
pub step_runs : (contents : Contents) (start step : ℕ) (c d : RunClocks) (plan other : Parts) (platforms others : List PlatformView) (fault stop : Option (ℕ × TurnFault)) → c.choice ≡ Step start step → d.choice ≡ Step start step → plan.graph ≡ other.graph → ReportsSensors contents plan.graph →
    AreFewReadings platforms → AreFewReadings others → IsOutcomeOver contents c plan platforms fault → IsOutcomeOver contents d other others stop → ((i : ℕ) → histories_of platforms i ≡ histories_of others i) × (fault ≡ stop)
step_runs contents start step c d plan other platforms others fault stop one two graphs reported few small h k =
    let a = by_steps c start step plan (of_run plan.graph h.rows) platforms fault one h.fact.readings in
    let b = by_steps d start step other (of_run other.graph k.rows) others stop two k.fact.readings in
    let levels : level_of other.ranks ≡ level_of plan.ranks = levels_are_one plan.graph (level_of other.ranks) (level_of plan.ranks) (subst (λ (g : Graph). AreLevels g (level_of other.ranks)) (sym graphs) k.admitted.levels) h.admitted.levels in
    let rows : of_run other.graph k.rows ≡ of_run plan.graph h.rows = same_rows contents plan.graph other.graph h.rows k.rows graphs reported h.sensors k.sensors in
    let count = h.fact.kept.all.count in
    let many = k.fact.kept.all.count ∙ ap (λ (g : Graph). length g.platforms) (sym graphs) in
    let steps : (i : ℕ) (v : PlatformView) → slice_get others i ≡ Some v → b.readings i ≡ first_readings (step_reading start step) (length (b.readings i)) = λ i v at. b.steps i v at (subst (λ n. n < 2 ^ 64) (sym (counted v.turns (b.readings i) (b.read i v at))) (small i v at)) in
    let in_turn : EndsInTurn plan.graph (level_of plan.ranks) (of_run plan.graph h.rows) b.readings others stop =
    subst (λ level. EndsInTurn plan.graph level (of_run plan.graph h.rows) b.readings others stop) levels
    (subst (λ rows. EndsInTurn plan.graph (level_of other.ranks) rows b.readings others stop) rows
    (subst (λ (g : Graph). EndsInTurn g (level_of other.ranks) (of_run other.graph k.rows) b.readings others stop) (sym graphs) (b.in_turn.visits, b.in_turn.last))) in
    let histories = same start step plan (of_run plan.graph h.rows) platforms others fault stop count many few a b.readings steps in_turn in
    let stopped = alike start step plan (of_run plan.graph h.rows) platforms others fault stop count many few a b.readings steps in_turn (platform_of plan.graph 0) ((wired plan.graph h.admitted.lawful).homes 0) in
    (histories, stop_one plan other (of_run plan.graph h.rows) (of_run other.graph k.rows) platforms others fault stop graphs histories stopped h.fact.kept k.fact.kept)

pub steps_agree : StepRunsAgree
steps_agree contents start step c d plan other platforms others one two graphs reported few small = (
  λ fault stop h k. step_runs contents start step c d plan other platforms others fault stop one two graphs reported few small h k,
  λ log misses missed text written h k. texts_agree contents c d plan other log platforms others misses missed text written graphs reported
      (step_runs contents start step c d plan other platforms others None None one two graphs reported few small h.run k.run).0 h k,
)
