-- Two calls of `run` over the same files.
use Rattle.std.proofs.Common.{◌≡◌, ℕ, ◌⊎◌, Bool, true, false, List, [], Option, None, Some, Result, Ok, Err, refl, sym, ap, ap₂, subst, ◌∙◌, inl, inr, ⊎_elim, append-nil}
use Rattle.std.proofs.lemmas.Bool.{false≢true}
use Rattle.pt_io.specs.Causes.{Appends}
use Rattle.pt_types.specs.declared.graph.Graph.{Graph}
use Rattle.pt_blocks.specs.declared.blocks.Named.{Named}
use Rattle.pt_graph_text.specs.declared.fault.GraphFault.{GraphFault}
use Rattle.pt_causality.specs.Ranked.{IsFreeCycle}
use Rattle.pt_semantics.specs.Cycles.{NoFreeCycle}
use Rattle.pt_semantics.specs.Offsets.{IsFeasible}
use Rattle.pt_semantics.proofs.Lookups.{none_some, same_some}
use Rattle.pt_offsets.specs.Plans.{Parts}
use Rattle.pt_turn.specs.declared.fault.TurnFault.{TurnFault}
use Rattle.pt_turn.specs.declared.fault.TurnFault.TheVariants as turn
use Rattle.pt_turn.specs.All.{histories_of}
use Rattle.pt_turn.specs.Platforms.{PlatformView}
use Rattle.pt_io.specs.Calls.{Contents, SourceCall, SinkCall}
use Rattle.pt_words.specs.declared.orders.ClockChoice.{ClockChoice}
use Rattle.pt_words.specs.declared.orders.ClockChoice.TheVariants.{Machine, Paced, Step}
use Rattle.pt_run.specs.Agreeing.{ReportsAll}
use Rattle.pt_run.specs.CallsAgreeing.{CallsAgree, EndAlike, IsFixed, IsUndisturbed}
use Rattle.pt_run.proofs.ByCause.{ComesByCause, Defines, ReadsRows, WantsGraph, WantsRows}
use Rattle.pt_run.specs.RunsAgreeing.{ReportsSensors}
use Rattle.pt_run.specs.Runs.{IsOutcomeOver, IsFinishedRun}
use Rattle.pt_run.specs.Statuses.{status_of, status_of_fault}
use Rattle.pt_words.specs.Grammar.{GraphFile, over}
use Rattle.pt_run.specs.Written.{HasNothing, Leaves, run_clocks, has_run, stop_of}
use Rattle.pt_run.specs.declared.fault.Fault.{Fault}
use Rattle.pt_run.specs.declared.fault.Fault.TheVariants as fault
use Rattle.pt_words.specs.declared.orders.Command.TheVariants.{Run}
use Rattle.pt_run.proofs.ByFault.{EndsBy}
use Rattle.pt_run.proofs.DueEnds.{due_ends}
use Rattle.pt_run.proofs.Exact.{exact}
use Rattle.pt_run.proofs.RunsAgreeing.{runs_agree, texts_agree}
use Rattle.pt_run.proofs.StepsAgreeing.{step_runs}
use Rattle.pt_run.specs.GraphFiles.{graph_by}
use Rattle.pt_sensor_files.specs.Bytes.{OfBytes}

-- a file with known content
pub of_bytes : (reported : Option (List ℕ)) (bytes : List ℕ) (Fact : List ℕ → Type 0) → reported ≡ Some bytes → OfBytes reported Fact → Fact bytes
of_bytes None bytes Fact e h = absurd (none_some bytes e)
of_bytes (Some b) bytes Fact e h = subst Fact (same_some b bytes e) h

same_ok : (g h : Graph) → ◌≡◌ {A = Result Graph GraphFault} (Ok g) (Ok h) → g ≡ h
same_ok g h e = cc

-- nothing was appended
nothing_more : (before now : Option (List ℕ)) → now ≡ before → Appends before now []
nothing_more None now e = tt
nothing_more (Some b) now e = e ∙ ap Some (sym (append-nil b))

-- the answer to a run that this platform stopped
abbrev answer_of : Option (ℕ × TurnFault) → Option Fault
answer_of None = None
answer_of (Some (platform, turn.Long)) = Some (fault.Long (Some platform))
answer_of (Some (platform, turn.Late actor tag reading limit)) = Some (fault.LateMessage platform actor tag reading limit)

not_memory : (o : Option Fault) → IsUndisturbed o → o ≡ Some fault.Memory → ⊥
not_memory o calm e = subst IsUndisturbed e calm

not_read : (o : Option Fault) (sensor : Option ℕ) → IsUndisturbed o → o ≡ Some (fault.Read sensor) → ⊥
not_read o sensor calm e = subst IsUndisturbed e calm

no_graph : (o : Option Fault) → IsUndisturbed o → WantsGraph o → ⊥
no_graph o calm wants = ⊎_elim (λ (e : o ≡ Some fault.Memory). not_memory o calm e) (λ (e : o ≡ Some (fault.Read None)). not_read o None calm e) wants

no_rows : (o : Option Fault) → IsUndisturbed o → WantsRows o → ⊥
no_rows o calm wants = ⊎_elim (λ (h : WantsGraph o). no_graph o calm h) (λ (h : (actor : ℕ) × (o ≡ Some (fault.Read (Some actor)))). not_read o (Some h.0) calm h.1) wants

module _ (clock : ClockChoice) (log : Bool) (contents : Contents) (blocks : List Named) (graph_file : GraphFile) (all : ReportsAll contents blocks graph_file) where
  -- a call that had a run and wrote all of its text, which is none if a platform stopped the run
  record Runs (workers : ℕ) (o : Option Fault) (left : Leaves) (w : SinkCall) : Type 0 where
    ran : has_run o ≡ true
    is : o ≡ answer_of (stop_of o)
    plan : Parts
    file : graph_by blocks graph_file all.bytes ≡ Ok plan.graph
    run : IsOutcomeOver contents (run_clocks workers clock left) plan left.platforms (stop_of o)
    text : List ℕ
    wrote : Appends w.written_before w.written_now text
    finished : o ≡ None → IsFinishedRun contents (run_clocks workers clock left) plan log left.platforms left.misses text
    stopped : (f : Fault) → o ≡ Some f → (left.misses ≡ []) × (text ≡ [])

  -- the answer of any other undisturbed call has the same status
  abbrev Decides : Fault → Type 0
  Decides f = (workers : ℕ) (o : Option Fault) → ComesByCause o (Some (over (Run workers clock log) graph_file)) contents blocks → IsUndisturbed o → (e : Fault) × (o ≡ Some e) × (status_of_fault e ≡ status_of_fault f) × (has_run (Some e) ≡ false)

  -- a call that was refused for a cause in its files
  record Refuses (o : Option Fault) (left : Leaves) (w : SinkCall) : Type 0 where
    answer : Fault
    is : o ≡ Some answer
    none : stop_of (Some answer) ≡ None
    nothing : HasNothing left
    same : w.written_now ≡ w.written_before
    decides : Decides answer

  -- of such causes
  defines : (workers : ℕ) (defined : Result Graph GraphFault) → OfBytes (contents graph_file.name) (λ bytes. graph_by blocks graph_file bytes ≡ defined) → Defines (Some (over (Run workers clock log) graph_file)) contents blocks (over (Run workers clock log)) defined
  defines workers defined file = record { graph_file = graph_file; words = refl; bytes = all.bytes; reported = all.reported; defines = of_bytes (contents graph_file.name) all.bytes (λ bytes. graph_by blocks graph_file bytes ≡ defined) all.reported file }

  reads : (workers : ℕ) (g : Graph) → OfBytes (contents graph_file.name) (λ bytes. graph_by blocks graph_file bytes ≡ Ok g) → NoFreeCycle g → IsFeasible g → ReadsRows (Some (over (Run workers clock log) graph_file)) contents blocks (Run workers clock log) g
  reads workers g file free feasible = record {
    graph = defines workers (Ok g) file;
    no_free_cycle = free;
    feasible = λ e. feasible;
    files = all.files g (of_bytes (contents graph_file.name) all.bytes (λ bytes. graph_by blocks graph_file bytes ≡ Ok g) all.reported file);
  }

  -- the answer is that cause
  by_cause : (f : Fault) (o : Option Fault) (Wants : Type 0) → has_run (Some f) ≡ false → (Wants → ⊥) → (o ≡ Some f) ⊎ Wants → (e : Fault) × (o ≡ Some e) × (status_of_fault e ≡ status_of_fault f) × (has_run (Some e) ≡ false)
  by_cause f o Wants never calm h = ⊎_elim (λ (is : o ≡ Some f). (f, is, refl, never)) (λ (wants : Wants). absurd (calm wants)) h

  module _ (workers : ℕ) (left : Leaves) (r : SourceCall) (w : SinkCall) where
    -- a platform stopped the run
    halted : (o : Option Fault) (g : Graph) → o ≡ answer_of (stop_of o) → has_run o ≡ true → (o ≡ None → ⊥) → OfBytes (contents graph_file.name) (λ bytes. graph_by blocks graph_file bytes ≡ Ok g) → (plan : Parts) → plan.graph ≡ g → IsOutcomeOver contents (run_clocks workers clock left) plan left.platforms (stop_of o) →
        left.misses ≡ [] → w.written_now ≡ w.written_before → Runs workers o left w
    halted o g is ran some file plan graph run none same = record {
      ran = ran;
      is = is;
      plan = plan;
      file = of_bytes (contents graph_file.name) all.bytes (λ bytes. graph_by blocks graph_file bytes ≡ Ok plan.graph) all.reported (subst (λ (h : Graph). OfBytes (contents graph_file.name) (λ bytes. graph_by blocks graph_file bytes ≡ Ok h)) (sym graph) file);
      run = run;
      text = [];
      wrote = nothing_more w.written_before w.written_now same;
      finished = λ e. absurd (some e);
      stopped = λ f e. (none, refl);
    }

    refused : (f : Fault) → stop_of (Some f) ≡ None → HasNothing left → w.written_now ≡ w.written_before → Decides f → Refuses (Some f) left w
    refused f none nothing same decides = record { answer = f; is = refl; none = none; nothing = nothing; same = same; decides = decides }

    -- each undisturbed call is one of the two
    classify : (o : Option Fault) → EndsBy o left (Some (Run workers clock log, graph_file)) contents blocks r w → IsUndisturbed o → Runs workers o left w ⊎ Refuses o left w
    classify None (text, (g, file, (free, run)), appends) calm = inl (record {
      ran = refl;
      is = refl;
      plan = run.plan;
      file = of_bytes (contents graph_file.name) all.bytes (λ bytes. graph_by blocks graph_file bytes ≡ Ok run.plan.graph) all.reported (subst (λ (h : Graph). OfBytes (contents graph_file.name) (λ bytes. graph_by blocks graph_file bytes ≡ Ok h)) (sym run.graph) file);
      run = run.finished.run;
      text = text;
      wrote = appends;
      finished = λ e. run.finished;
      stopped = λ f e. absurd (none_some f e);
    })
    classify (Some fault.Usage) k calm = absurd k
    classify (Some fault.Memory) k calm = absurd calm
    classify (Some fault.Write) k calm = absurd calm
    classify (Some (fault.Read sensor)) k calm = absurd calm
    classify (Some (fault.Long None)) ((g, file, (free, cause)), same) calm = absurd cause
    classify (Some (fault.Ring sends gain)) ((g, file, (free, cause)), same) calm = absurd cause
    classify (Some fault.ReadLog) ((g, file, (free, cause)), same) calm = absurd cause
    classify (Some (fault.Unlawful v)) ((g, file, (free, cause)), same) calm = absurd cause
    classify (Some (fault.LateAir platform actor tag reading limit row)) ((g, file, (free, cause)), same) calm = absurd cause
    classify (Some (fault.Air e)) ((g, file, (free, cause)), same) calm = absurd cause
    classify (Some fault.ReadAir) ((g, file, (free, cause)), same) calm = absurd cause
    classify (Some (fault.Long (Some platform))) ((g, file, (free, stop)), same) calm =
        inl (halted (Some (fault.Long (Some platform))) g refl refl (λ e. none_some (fault.Long (Some platform)) (sym e)) file stop.plan stop.graph stop.run stop.no_misses same)
    classify (Some (fault.LateMessage platform actor tag reading limit)) ((g, file, (free, stop)), same) calm =
        inl (halted (Some (fault.LateMessage platform actor tag reading limit)) g refl refl (λ e. none_some (fault.LateMessage platform actor tag reading limit) (sym e)) file stop.plan stop.graph stop.run stop.no_misses same)
    classify (Some (fault.Graph f)) (cause, nothing, same) calm =
        inr (refused (fault.Graph f) refl nothing same (λ others o h still. by_cause (fault.Graph f) o (WantsGraph o) refl (no_graph o still) (h.graph (Run others clock log) f (defines others (Err f) cause))))
    classify (Some (fault.Cycle actors)) ((g, file, (cause, nothing)), same) calm =
        inr (refused (fault.Cycle actors) refl nothing same (λ others o h still.
        ⊎_elim (λ (found : (ring : List ℕ) × IsFreeCycle g ring × (o ≡ Some (fault.Cycle ring))). (fault.Cycle found.0, found.2, refl, refl)) (λ (wants : WantsGraph o). absurd (no_graph o still wants))
        (h.cycle (Run others clock log) g (defines others (Ok g) file) (λ free. free cause.first cause.edge cause.path cause.cycle cause.free))))
    classify (Some (fault.Infeasible send offset slack)) ((g, file, (free, (cause, nothing))), same) calm =
        inr (refused (fault.Infeasible send offset slack) refl nothing same
        (λ others o h still. by_cause (fault.Infeasible send offset slack) o (WantsGraph o) refl (no_graph o still) (h.infeasible (Run others clock log) g send offset slack tt (defines others (Ok g) file) free cause)))
    classify (Some (fault.Sensor actor f)) ((g, file, (free, (feasible, cause, nothing))), same) calm =
        inr (refused (fault.Sensor actor f) refl nothing same
        (λ others o h still. by_cause (fault.Sensor actor f) o (WantsRows o) refl (no_rows o still) (h.sensor (Run others clock log) g actor f (reads others g file free feasible) cause)))
    classify (Some (fault.LateRow actor row seen limit)) ((g, file, (free, (feasible, cause, nothing))), same) calm =
        inr (refused (fault.LateRow actor row seen limit) refl nothing same
        (λ others o h still. by_cause (fault.LateRow actor row seen limit) o (WantsRows o) refl (no_rows o still) (h.late_row others clock log g actor row seen limit (reads others g file free feasible) cause)))

  -- two calls that had a run
  module _ (workers others : ℕ) (o p : Option Fault) (left leaves : Leaves) (r q : SourceCall) (w v : SinkCall) (h : Runs workers o left w) (k : Runs others p leaves v) where
    graphs : h.plan.graph ≡ k.plan.graph
    graphs = same_ok h.plan.graph k.plan.graph (sym h.file ∙ k.file)

    reported : ReportsSensors contents h.plan.graph
    reported = all.files h.plan.graph h.file

    ran_alike : IsFixed clock left.platforms → IsFixed clock leaves.platforms → ((i : ℕ) → histories_of left.platforms i ≡ histories_of leaves.platforms i) × (stop_of o ≡ stop_of p)
    ran_alike = by_clock clock refl
      where
        by_clock : (choice : ClockChoice) → clock ≡ choice → IsFixed choice left.platforms → IsFixed choice leaves.platforms → ((i : ℕ) → histories_of left.platforms i ≡ histories_of leaves.platforms i) × (stop_of o ≡ stop_of p)
        by_clock Paced e few small = runs_agree contents (run_clocks workers clock left) (run_clocks others clock leaves) h.plan k.plan left.platforms leaves.platforms (stop_of o) (stop_of p) e e graphs reported h.run k.run
        by_clock (Step start step) e few small =
            step_runs contents start step (run_clocks workers clock left) (run_clocks others clock leaves) h.plan k.plan left.platforms leaves.platforms (stop_of o) (stop_of p) e e graphs reported few small h.run k.run
        by_clock Machine e few small = absurd few

    module _ (same : (i : ℕ) → histories_of left.platforms i ≡ histories_of leaves.platforms i) (stop : stop_of o ≡ stop_of p) where
      outcomes : o ≡ p
      outcomes = h.is ∙ ap answer_of stop ∙ sym k.is

      outputs : (z : Option Fault) → o ≡ z → (h.text ≡ k.text) × (left.misses ≡ leaves.misses)
      outputs None e =
          texts_agree contents (run_clocks workers clock left) (run_clocks others clock leaves) h.plan k.plan log left.platforms leaves.platforms left.misses leaves.misses h.text k.text graphs reported same (h.finished e) (k.finished (sym outcomes ∙ e))
      outputs (Some f) e =
          let a = h.stopped f e in
          let b = k.stopped f (sym outcomes ∙ e) in
          (a.1 ∙ sym b.1, a.0 ∙ sym b.0)

      runs_alike : EndAlike (record { fault = o; left = left; read = r; wrote = w }) (record { fault = p; left = leaves; read = q; wrote = v })
      runs_alike = record {
        status = ap₂ (λ z misses. status_of z misses) outcomes (outputs o refl).1;
        misses = (outputs o refl).1;
        histories = same;
        stop = stop;
        text = (h.text, h.wrote, subst (Appends v.written_before v.written_now) (sym (outputs o refl).0) k.wrote);
      }

  -- two calls that were refused
  refused_alike : (o p : Option Fault) (left leaves : Leaves) (r q : SourceCall) (w v : SinkCall) (h : Refuses o left w) → Refuses p leaves v → (e : Fault) → p ≡ Some e → status_of_fault e ≡ status_of_fault h.answer →
      EndAlike (record { fault = o; left = left; read = r; wrote = w }) (record { fault = p; left = leaves; read = q; wrote = v })
  refused_alike o p left leaves r q w v h k e is status = record {
    status = ap (λ z. status_of z left.misses) h.is ∙ sym status ∙ sym (ap (λ z. status_of z leaves.misses) is);
    misses = h.nothing.0 ∙ sym k.nothing.0;
    histories = λ i. ap (λ (vs : List PlatformView). histories_of vs i) (h.nothing.1 ∙ sym k.nothing.1);
    stop = ap stop_of h.is ∙ h.none ∙ sym (ap stop_of k.is ∙ k.none);
    text = ([], nothing_more w.written_before w.written_now h.same, nothing_more v.written_before v.written_now k.same);
  }

  -- a call that had a run was not refused
  not_both : (o : Option Fault) (e : Fault) → o ≡ Some e → has_run (Some e) ≡ false → has_run o ≡ true → ⊥
  not_both o e is never ran = false≢true (sym never ∙ sym (ap has_run is) ∙ ran)

pub calls_agree : CallsAgree
calls_agree workers others clock log contents blocks graph_file a b all calm still few small due more =
    ⊎_elim
    (λ (h : Runs clock log contents blocks graph_file all workers a.fault a.left a.wrote).
    ⊎_elim
    (λ (k : Runs clock log contents blocks graph_file all others b.fault b.left b.wrote).
    let alike = ran_alike clock log contents blocks graph_file all workers others a.fault b.fault a.left b.left a.read b.read a.wrote b.wrote h k few small in
    runs_alike clock log contents blocks graph_file all workers others a.fault b.fault a.left b.left a.read b.read a.wrote b.wrote h k alike.0 alike.1)
    (λ (k : Refuses clock log contents blocks graph_file all b.fault b.left b.wrote).
    let (e, is, status, never) = k.decides workers a.fault (exact a.fault a.left (Some (over (Run workers clock log) graph_file)) contents blocks a.read a.wrote ends) calm in
    absurd (not_both clock log contents blocks graph_file all a.fault e is never h.ran))
    other)
    (λ (h : Refuses clock log contents blocks graph_file all a.fault a.left a.wrote).
    let (e, is, status, never) = h.decides others b.fault (exact b.fault b.left (Some (over (Run others clock log) graph_file)) contents blocks b.read b.wrote more_ends) still in
    ⊎_elim
    (λ (k : Runs clock log contents blocks graph_file all others b.fault b.left b.wrote). absurd (not_both clock log contents blocks graph_file all b.fault e is never k.ran))
    (λ (k : Refuses clock log contents blocks graph_file all b.fault b.left b.wrote). refused_alike clock log contents blocks graph_file all a.fault b.fault a.left b.left a.read b.read a.wrote b.wrote h k e is status)
    other)
    (classify clock log contents blocks graph_file all workers a.left a.read a.wrote a.fault ends calm)
  where
    ends : EndsBy a.fault a.left (Some (Run workers clock log, graph_file)) contents blocks a.read a.wrote
    ends = due_ends contents blocks a (Some (over (Run workers clock log) graph_file)) due

    more_ends : EndsBy b.fault b.left (Some (Run others clock log, graph_file)) contents blocks b.read b.wrote
    more_ends = due_ends contents blocks b (Some (over (Run others clock log) graph_file)) more

    other : Runs clock log contents blocks graph_file all others b.fault b.left b.wrote ⊎ Refuses clock log contents blocks graph_file all b.fault b.left b.wrote
    other = classify clock log contents blocks graph_file all others b.left b.read b.wrote b.fault more_ends still
