-- Runs over made inputs.
use Rattle.std.proofs.Common.{◌≡◌, ◌≢◌, ℕ, suc, ◌+◌, ◌<◌, ◌≤◌, List, [], ◌∷◌, Option, None, Some, ℤ, pos, ◌-ℤ◌, ◌+ℤ◌, ◌<ℤ◌, length, slice_get, arith, append-nil, refl, sym, ap, subst, ◌∙◌, inl, ⊎_elim, inr}
use Rattle.std.specs.Prelude.{flat_map}
use Rattle.std.proofs.lemmas.Int.{ints}
use Rattle.std.proofs.lemmas.Option.{slice_get_within}
use Rattle.pt_types.specs.declared.graph.Graph.{Graph}
use Rattle.pt_types.specs.declared.graph.Unit.{Unit}
use Rattle.pt_types.specs.declared.rows.Row.{Row}
use Rattle.pt_history.specs.declared.miss.Miss.{Miss}
use Rattle.pt_semantics.specs.Lists.{IsIn}
use Rattle.pt_semantics.specs.Meaning.{ActorFiring, IsMeaning}
use Rattle.pt_semantics.specs.Missed.{IsMissed}
use Rattle.pt_semantics.specs.Offsets.{HasOffset}
use Rattle.pt_semantics.specs.Platform.{State}
use Rattle.pt_semantics.specs.Ranks.{AreLevels, sum_along}
use Rattle.pt_semantics.specs.Rounds.{IsWholeRun}
use Rattle.pt_semantics.specs.Rows.{FitRows}
use Rattle.pt_semantics.specs.Visits.{RunState}
use Rattle.pt_causality.specs.Ranked.{level_of, rank_of}
use Rattle.pt_offsets.specs.Plans.{IsAdmitted, Parts}
use Rattle.pt_offsets.specs.Timings.{offset_of}
use Rattle.pt_turn.specs.Platforms.{PlatformView, state_at}
use Rattle.pt_turn.specs.declared.fault.TurnFault.{TurnFault}
use Rattle.pt_turn.specs.Running.{Shows, ShowsLong}
use Rattle.pt_monitors.specs.Platforms.{missed_by}
use Rattle.pt_monitors.proofs.Members.{in_flat_map}
use Rattle.pt_monitors.proofs.Missing.{lists_missed}
use Rattle.pt_sensors.specs.Places.{of_run}
use Rattle.pt_rounds.specs.Outcome.{IsOutcome as IsPacedOutcome}
use Rattle.pt_confluence.specs.Gathered.{HaveFinished}
use Rattle.pt_run.proofs.Finished.{have_finished}
use Rattle.pt_make.specs.Input.{made_graph, made_rows}
use Rattle.pt_make.specs.Summary.{summary}
use Rattle.pt_make.proofs.Fitting.{rows_fit}
use Rattle.pt_make.proofs.Shape.{feasible, no_cycle}
use Rattle.pt_make.proofs.Steady.{never_long}
use Rattle.pt_make.proofs.Timely.{never_missed}
use Rattle.pt_run.specs.declared.fault.Fault.{Fault}
use Rattle.pt_turn.specs.All.{AreReady}
use Rattle.pt_io.specs.Causes.{Appends, AppendsPart, Rose}
use Rattle.pt_run.specs.declared.outcome.Ending.{Ending}
use Rattle.pt_run.specs.Texts.{left_by, left_by_run}
use Rattle.pt_run.specs.Due.{IsDue}
use Rattle.pt_run.specs.Written.{Leaves}
use Rattle.pt_io.specs.Calls.{Contents, SourceCall, SinkCall}
use Rattle.pt_run.specs.declared.fault.Fault.TheVariants as fault
use Rattle.pt_blocks.specs.declared.blocks.Named.{Named}
use Rattle.pt_run.specs.Faults.{fault_of_plan}
use Rattle.pt_run.specs.Making.{IsMadeRun}
use Rattle.pt_run.specs.Reporting.{Reports}
use Rattle.pt_causality.specs.declared.cycle.CycleFault.TheVariants as cycle
use Rattle.pt_offsets.specs.Faults.{CauseOfPlan}
use Rattle.pt_offsets.specs.declared.fault.OffsetFault.TheVariants as offset
use Rattle.pt_offsets.specs.declared.fault.PlanFault.{PlanFault}
use Rattle.pt_offsets.specs.declared.fault.PlanFault.TheVariants as unplanned
use Rattle.pt_words.specs.Grammar.{make}
use Rattle.pt_types.specs.Limits.{usual_claims}

-- a made graph has a plan, unless memory runs out
pub never_refused : (n : ℕ) (f : PlanFault) → CauseOfPlan f (made_graph n) → fault_of_plan f ≢ fault.Memory → ⊥
never_refused n (unplanned.Cycle (cycle.Cycle actors)) h other = no_cycle n h.first h.edge h.path h.cycle h.free
never_refused n (unplanned.Cycle cycle.Memory) h other = other refl
never_refused n (unplanned.Offset offset.Memory) h other = other refl
never_refused n (unplanned.Offset (offset.Infeasible send o slack)) h other =
    let late = h.1.infeasible in
    let (s, b, path, feeds, is) = late.offset_is.some in
    in_time b slack (sum_along path).time o (feasible n send slack s b path late.sends feeds) is late.late
  where
    in_time : (b slack t : ℕ) (o : ℤ) → b + 1 ≤ slack + t → pos b -ℤ pos t ≡ o → pos slack <ℤ (o +ℤ pos 1) → ⊥
    in_time b slack t o le is late = omega (arith, ints)
never_refused n unplanned.Memory h other = other refl

pub place_of : {X : Type 0} (x : X) (xs : List X) → IsIn x xs → (i : ℕ) × (slice_get xs i ≡ Some x)
place_of x [] h = absurd h
place_of x (y ∷ ys) h =
    ⊎_elim
    (λ (e : x ≡ y). (0, ap Some (sym e)))
    (λ (m : IsIn x ys). let there = place_of x ys m in (suc there.0, there.1))
    h

pub none_of : {X : Type 0} (xs : List X) → ((x : X) → IsIn x xs → ⊥) → xs ≡ []
none_of [] h = refl
none_of (x ∷ xs) h = absurd (h x (inl refl))

-- what holds of the graph of a plan, as the laws of made inputs ask for it
record Known (plan : Parts) (g : Graph) (rows : ℕ → List Row) (y : RunState) : Type 0 where
  pub levels : AreLevels g (level_of plan.ranks)
  pub offsets : (u : Unit) → HasOffset g u (offset_of plan.offsets u)
  pub run : IsWholeRun g (level_of plan.ranks) rows y

module _ (n : ℕ) (few : n ≤ 100) (plan : Parts) (is : plan.graph ≡ made_graph n) (admitted : IsAdmitted plan) (platforms : List PlatformView) where
  abbrev rows : ℕ → List Row
  rows = of_run (made_graph n) (made_rows n)

  known : (fault : Option (ℕ × TurnFault)) (run : IsPacedOutcome plan (level_of plan.ranks) rows platforms fault) → Known plan (made_graph n) rows run.after.together
  known fault run = subst (λ g. Known plan g rows run.after.together) is (record { levels = admitted.levels; offsets = admitted.offsets.units; run = run.after.run })

  -- a platform's number
  number_in : (fault : Option (ℕ × TurnFault)) (run : IsPacedOutcome plan (level_of plan.ranks) rows platforms fault) (i : ℕ) (v : PlatformView) → slice_get platforms i ≡ Some v → i < 4
  number_in fault run i v at = subst (λ k. i < k) (run.all.count ∙ ap (λ (g : Graph). length g.platforms) is) (slice_get_within platforms i v at)

  -- no platform shows that it made all its claims
  pub no_long : (fault : Option (ℕ × TurnFault)) (run : IsPacedOutcome plan (level_of plan.ranks) rows platforms fault) (i : ℕ) (v : PlatformView) → slice_get platforms i ≡ Some v → ShowsLong v.plan.graph (state_at v) → ⊥
  no_long fault run i v at shows =
      let k = known fault run in
      let below = never_long n few (level_of plan.ranks) (offset_of plan.offsets) k.levels k.offsets run.after.together k.run i (number_in fault run i v at) in
      let limit : v.plan.graph.claims ≡ usual_claims = ap (λ (p : Parts). p.graph.claims) (run.all.plans i v at) ∙ ap (λ (g : Graph). g.claims) is in
      past (state_at v).claims (subst (λ (s : State). s.claims < usual_claims) (run.after.states i v at) below) (subst (λ n. n ≤ (state_at v).claims) limit shows.all)
    where
      past : (k : ℕ) → k < usual_claims → usual_claims ≤ k → ⊥
      past k h all = omega arith

  -- so none stopped the run
  pub no_long_at : (f : ℕ × TurnFault) → IsPacedOutcome plan (level_of plan.ranks) rows platforms (Some f) → ⊥
  no_long_at f run =
      let (v, at, is_fault, shows, before) = run.ends in
      let long : ShowsLong plan.graph (state_at v) = subst (Shows plan.graph v.turns (state_at v)) run.all_claims_made shows in
      no_long (Some f) run f.0 v at (subst (λ (p : Parts). ShowsLong p.graph (state_at v)) (sym (run.all.plans f.0 v at)) long)

  pub none_stopped : (stop : Option (ℕ × TurnFault)) → IsPacedOutcome plan (level_of plan.ranks) rows platforms stop → IsPacedOutcome plan (level_of plan.ranks) rows platforms None
  none_stopped None run = run
  none_stopped (Some f) run = absurd (no_long_at f run)

  -- nothing is missed
  pub none_missed : (fault : Option (ℕ × TurnFault)) (run : IsPacedOutcome plan (level_of plan.ranks) rows platforms fault) → flat_map missed_by platforms ≡ []
  none_missed fault run = none_of (flat_map missed_by platforms) (λ m mem.
      let v = in_flat_map missed_by platforms m mem in
      let at = place_of v.0 platforms v.1 in
      at_platform m at.0 v.0 at.1 v.2)
    where
      at_platform : (m : Miss) (i : ℕ) (v : PlatformView) → slice_get platforms i ≡ Some v → IsIn m (missed_by v) → ⊥
      at_platform m i v at mem =
          let k = known fault run in
          let graph : v.plan.graph ≡ made_graph n = ap (λ (p : Parts). p.graph) (run.all.plans i v at) ∙ is in
          let (turn, there, reading, missed) = (lists_missed v.plan.graph v.turns m).0 mem in
          never_missed n few (level_of plan.ranks) (offset_of plan.offsets) k.levels k.offsets run.after.together k.run i (number_in fault run i v at) turn
          (subst (IsIn turn) (run.after.kept_turns i v at) there) m.actor m.limit m.tag
          (subst (λ g. IsMissed g turn m.actor m.tag m.limit) graph missed)

  -- what is made of finished platforms
  pub made_run : (firings : List ActorFiring) (missed : ℕ) (text : List ℕ) → IsPacedOutcome plan (level_of plan.ranks) rows platforms None →
      ((rows : ℕ → List Row) → HaveFinished plan rows platforms → IsMeaning plan.graph (rank_of plan.ranks) rows firings) → missed ≡ length (flat_map missed_by platforms) → text ≡ summary n firings missed → IsMadeRun n platforms text
  made_run firings missed text run gathered count written = record {
    plan = plan;
    graph = is;
    admitted = admitted;
    run = run;
    firings = firings;
    meaning = subst (λ g. IsMeaning g (rank_of plan.ranks) rows firings) is (gathered rows (have_finished plan rows platforms (subst (λ g. FitRows g rows) (sym is) (rows_fit n)) run));
    none_missed = none_missed None run;
    written = written ∙ ap (summary n firings) count;
  }

-- the platforms that open with made rows
pub made_ready : (n : ℕ) (plan : Parts) (opened : List PlatformView) (rows : ℕ → List Row) → plan.graph ≡ made_graph n → rows ≡ made_rows n → AreReady plan (of_run plan.graph rows) opened → AreReady plan (of_run (made_graph n) (made_rows n)) opened
made_ready n plan opened rows is same ready = subst (λ z. AreReady plan (of_run (made_graph n) z) opened) same (subst (λ g. AreReady plan (of_run g rows) opened) is ready)

-- a call that wrote all and missed nothing reports nothing
pub reports_nothing : (outcome : Option Fault) (misses : List Miss) (n : ℕ) (written : Option (List ℕ)) → outcome ≡ None → misses ≡ [] → Reports outcome misses None (record { before = n; now = n; written_before = written; written_now = written })
reports_nothing outcome misses n written is none =
    subst (λ o. Reports o misses None (record { before = n; now = n; written_before = written; written_now = written })) (sym is) (inl (nothing_put written))
  where
    nothing_put : (o : Option (List ℕ)) → Appends o o []
    nothing_put None = tt
    nothing_put (Some bytes) = ap Some (sym (append-nil bytes))

-- what is gathered of the platforms of a plan
pub gathered_as : (plan other : Parts) (platforms views : List PlatformView) (firings : List ActorFiring) → other ≡ plan → views ≡ platforms → ((rows : ℕ → List Row) → HaveFinished other rows views → IsMeaning other.graph (rank_of other.ranks) rows firings)
    → (rows : ℕ → List Row) → HaveFinished plan rows platforms → IsMeaning plan.graph (rank_of plan.ranks) rows firings
gathered_as plan other platforms views firings same seen h rows finished =
    subst (λ (p : Parts). IsMeaning p.graph (rank_of p.ranks) rows firings) same
    (h rows (subst (λ (p : Parts). HaveFinished p rows views) (sym same) (subst (HaveFinished plan rows) (sym seen) finished)))

-- a write of the summary failed
pub made_part : (o : Ending) (number workers : ℕ) (platforms : List PlatformView) (text : List ℕ) (contents : Contents) (blocks : List Named) (r : SourceCall) (w : SinkCall) → o.fault ≡ Some fault.Write → left_by o ≡ left_by_run [] platforms → IsMadeRun number platforms text →
    Rose w.before w.now → AppendsPart w.written_before w.written_now text → IsDue (Some (make number workers)) contents blocks (record { fault = o.fault; left = left_by o; read = r; wrote = w })
made_part o number workers platforms text contents blocks r w is left made rose part =
    inr (ap (λ (l : Leaves). l.misses) left, inr (is, rose, text, subst (λ (l : Leaves). IsMadeRun number l.platforms text) (sym left) made, part))
