-- How a run over a graph ends, by how it ends over its plan.
use Rattle.std.proofs.Common.{◌≡◌, ◌≢◌, ◌⊎◌, ℕ, ℤ, Bool, true, false, List, [], Option, Some, None, Result, Ok, Err, IfOk, IfErr, refl, sym, ap, subst, ◌∙◌, inl, inr, ⊎_elim}
use Rattle.pt_io.specs.Causes.{Appends, AppendsPart, Rose}
use Rattle.pt_types.specs.declared.graph.Graph.{Graph}
use Rattle.pt_types.specs.declared.rows.Row.{Row}
use Rattle.pt_history.specs.declared.miss.Miss.{Miss}
use Rattle.pt_causality.specs.declared.cycle.CycleFault.TheVariants as cycle
use Rattle.pt_offsets.specs.Faults.{CauseOfPlan}
use Rattle.pt_offsets.specs.declared.fault.OffsetFault.TheVariants as offset
use Rattle.pt_offsets.specs.declared.fault.PlanFault.{PlanFault}
use Rattle.pt_offsets.specs.declared.fault.PlanFault.TheVariants as plan
use Rattle.pt_offsets.specs.Plans.{IsAdmitted, Parts}
use Rattle.pt_sensor_files.specs.declared.recorded_fault.RecordedFault.{RecordedFault}
use Rattle.pt_sensor_files.specs.declared.recorded_fault.RecordedFault.TheVariants as rows
use Rattle.pt_sensor_files.specs.declared.recorded_fault.LateRows.TheVariants.{Refused}
use Rattle.pt_io.specs.Calls.{Contents, SourceCall, SinkCall}
use Rattle.pt_sensors.specs.Places.{of_run}
use Rattle.pt_turn.specs.declared.fault.TurnFault.{TurnFault}
use Rattle.pt_turn.specs.declared.fault.TurnFault.TheVariants as turn
use Rattle.pt_turn.specs.Platforms.{PlatformView}
use Rattle.pt_sensor_files.specs.Recorded.{CauseOfRows, SensorUnread}
use Rattle.pt_run.specs.declared.outcome.Stopped.{Stopped}
use Rattle.pt_run.specs.declared.outputs.Outputs.{Outputs}
use Rattle.pt_run.specs.Readings.{RunClocks}
use Rattle.pt_run.specs.Runs.{CauseOfStop, HasOutputs, IsFinishedRun, IsOutcomeOver, IsStop, outputs_text}
use Rattle.pt_run.specs.declared.fault.Fault.{Fault}
use Rattle.pt_run.specs.declared.fault.Fault.TheVariants as fault
use Rattle.pt_io.specs.Clocks.{ClockView}
use Rattle.pt_words.specs.declared.orders.ClockChoice.{ClockChoice}
use Rattle.pt_words.specs.declared.orders.ClockChoice.TheVariants.{Machine, Paced, Step}
use Rattle.pt_run.specs.Clocks.{AreAsMany, AreBackBy}
use Rattle.pt_run.specs.declared.outcome.Ending.{Ending}
use Rattle.pt_words.specs.declared.orders.Command.TheVariants.{Run}
use Rattle.pt_run.specs.Due.{AfterAdmission, AfterCycles, AfterOffsets, Answer, EndsRefused, IsDueFor, RefusedWith, UnlessMemory}
use Rattle.pt_run.specs.Faults.{fault_of_plan, fault_of_rows, fault_of_turn}
use Rattle.pt_run.specs.Leaving.{LeavesRun, PutsMeaning}
use Rattle.pt_run.specs.Written.{HasNothing, Leaves, run_clocks, has_run, leaves_nothing, stop_of}
use Rattle.pt_run.specs.Texts.{HasEnded, LeftAll, OrMemory, WroteRun, left_by, left_by_run, left_with, stop_in}
use Rattle.pt_run.proofs.Endings.{has_nothing}

-- what a call leaves, with what the clocks showed before its run and after it
abbrev over : Leaves → List ClockView → List ClockView → Leaves
over left before now = record { misses = left.misses; platforms = left.platforms; before = before; now = now }

-- the text of a run that finished, as it was put
pub puts : (contents : Contents) (c : RunClocks) (log : Bool) (plan : Parts) (platforms : List PlatformView) (misses : List Miss) (text : List ℕ) (Put : List ℕ → Type 0) → (done : IsFinishedRun contents c plan log platforms misses text) → Put text →
    PutsMeaning plan (of_run plan.graph done.run.rows) log platforms Put
puts contents c log plan platforms misses text Put done put = record { fit = done.fit; firings = done.firings; meaning = done.meaning; text = subst Put done.written put; held = done.held }

-- a run of a plan by this clock
module _ (workers : ℕ) (clock : ClockChoice) (log : Bool) (contents : Contents) (plan : Parts) (admitted : IsAdmitted plan) (r : SourceCall) (w : SinkCall) where
  -- it ended so with this fault, or without one
  abbrev Due : Option Fault → Leaves → Type 0
  Due o left = UnlessMemory (record { fault = o; left = left; read = r; wrote = w }) (IsDueFor (Run workers clock log) contents plan.graph [])

  -- its platforms run_due
  run_due : (o : Option Fault) (left : Leaves) (run : IsOutcomeOver contents (run_clocks workers clock left) plan left.platforms (stop_of o)) → has_run o ≡ true → LeavesRun (run_clocks workers clock left) log o left w plan (of_run plan.graph run.rows) → (o ≡ Some fault.Write → Rose w.before w.now) → Due o left
  run_due o left run has leaves rose =
      inr (inr (admitted.no_free_cycle, inr (admitted.feasible, inr (inr (inr (run.rows, run.sensors, run.in_time, (plan, refl, admitted, record { ran = has; leaves = leaves; failed = rose; paced = run.fact.paced })))))))

  finished : (left : Leaves) (text : List ℕ) → IsFinishedRun contents (run_clocks workers clock left) plan log left.platforms left.misses text → Appends w.written_before w.written_now text → Due None left
  finished left text done put =
      run_due None left done.run refl (record {
        kept = done.run.fact.kept;
        readings = done.run.fact.readings;
        written = λ e. puts contents (run_clocks workers clock left) log plan left.platforms left.misses text (Appends w.written_before w.written_now) done put;
        misses = λ e. done.missed;
        part = λ e. absurd cc;
        unwritten = λ ne. absurd (ne refl);
        no_misses = λ ne. absurd (ne refl);
      }) (λ e. absurd cc)

  partly : (left : Leaves) (misses : List Miss) (text : List ℕ) → IsFinishedRun contents (run_clocks workers clock left) plan log left.platforms misses text → left.misses ≡ [] → Rose w.before w.now → AppendsPart w.written_before w.written_now text → Due (Some fault.Write) left
  partly left misses text done none rose put =
      run_due (Some fault.Write) left done.run refl (record {
        kept = done.run.fact.kept;
        readings = done.run.fact.readings;
        written = λ e. absurd cc;
        misses = λ e. absurd cc;
        part = λ e. puts contents (run_clocks workers clock left) log plan left.platforms misses text (AppendsPart w.written_before w.written_now) done put;
        unwritten = λ ne. absurd (ne refl);
        no_misses = λ ne. none;
      }) (λ e. rose)

  wrote_plan : (ran : Outputs) (o : Ending) (before now : List ClockView) → HasOutputs contents (record { choice = clock; workers = workers; before = before; now = now }) plan log ran → WroteRun ran o w → Due o.fault (left_with o before now)
  wrote_plan ran o before now run h =
      ⊎_elim
      (λ all. subst (λ left. Due o.fault (over left before now)) (sym all.1) (subst (λ f. Due f (over (left_by_run ran.misses.items ran.platforms.items) before now)) (sym all.0) (finished (over (left_by_run ran.misses.items ran.platforms.items) before now) (outputs_text ran) run.0 all.2)))
      (λ part. subst (λ left. Due o.fault (over left before now)) (sym part.1) (subst (λ f. Due f (over (left_by_run [] ran.platforms.items) before now)) (sym part.0) (partly (over (left_by_run [] ran.platforms.items) before now) ran.misses.items (outputs_text ran) run.0 refl part.2 part.3)))
      h

  -- its platforms were stopped
  halted : (o : Option Fault) (platforms : List PlatformView) (before now : List ClockView) → w.written_now ≡ w.written_before → has_run o ≡ true → o ≢ None → o ≢ Some fault.Write → IsOutcomeOver contents (record { choice = clock; workers = workers; before = before; now = now }) plan platforms (stop_of o) →
      Due o (over (left_by_run [] platforms) before now)
  halted o platforms before now still has some other run =
      run_due o (over (left_by_run [] platforms) before now) run has (record {
        kept = run.fact.kept;
        readings = run.fact.readings;
        written = λ e. absurd (some e);
        misses = λ e. absurd (some e);
        part = λ e. absurd (other e);
        unwritten = λ ne. still;
        no_misses = λ ne. refl;
      }) (λ e. absurd (other e))

  left_all : (f : Fault) (platforms : List PlatformView) (o : Ending) (before now : List ClockView) → w.written_now ≡ w.written_before → Due (Some f) (over (left_by_run [] platforms) before now) → LeftAll f platforms o → Due o.fault (left_with o before now)
  left_all f platforms o before now still due h =
      ⊎_elim
      (λ is. subst (λ left. Due o.fault (over left before now)) (sym is.1) (subst (λ e. Due e (over (left_by_run [] platforms) before now)) (sym is.0) due))
      (λ memory. inl (memory.0, has_nothing o before now memory.1, still))
      h

  -- its rows were refused
  by_rows : (a : Answer) (f : RecordedFault) → a.read ≡ r → RefusedWith (fault_of_rows f) a → CauseOfRows Refused f contents plan.graph [] r → UnlessMemory a (IsDueFor (Run workers clock log) contents plan.graph [])
  by_rows a rows.Memory is out k = inl out
  by_rows a (rows.Read actor) is out k = inr (inr (admitted.no_free_cycle, inr (admitted.feasible, inl (actor, out, subst (SensorUnread Refused contents plan.graph actor []) (sym is) k))))
  by_rows a (rows.Sensor actor e) is out k = inr (inr (admitted.no_free_cycle, inr (admitted.feasible, inr (inl (actor, e, out, k)))))
  by_rows a (rows.Late actor row seen limit) is out k = inr (inr (admitted.no_free_cycle, inr (admitted.feasible, inr (inr (inl (actor, row, seen, limit, out, refl, k.1))))))

  -- a platform stopped it
  by_turn : (platform : ℕ) (f : TurnFault) (platforms : List PlatformView) (before now : List ClockView) → w.written_now ≡ w.written_before → IsOutcomeOver contents (record { choice = clock; workers = workers; before = before; now = now }) plan platforms (Some (platform, f)) →
      Due (Some (fault_of_turn platform None f)) (over (left_by_run [] platforms) before now)
  by_turn platform turn.Long platforms before now still run = halted (Some (fault.Long (Some platform))) platforms before now still refl (λ e. absurd cc) (λ e. absurd cc) run
  by_turn platform (turn.Late actor tag reading limit) platforms before now still run =
      halted (Some (fault.LateMessage platform actor tag reading limit)) platforms before now still refl (λ e. absurd cc) (λ e. absurd cc) run

  -- it left no platforms
  left_nothing : (f : Fault) (platforms : List PlatformView) (o : Ending) (before now : List ClockView) → platforms ≡ [] → LeftAll f platforms o → OrMemory o.fault f × HasNothing (left_with o before now)
  left_nothing f platforms o before now none (inl is) = (inl is.0, (ap (λ (l : Leaves). l.misses) is.1, ap (λ (l : Leaves). l.platforms) is.1 ∙ none))
  left_nothing f platforms o before now none (inr memory) = (inr memory.0, has_nothing o before now memory.1)

  stopped_plan : (s : Stopped) (o : Ending) (before now : List ClockView) → CauseOfStop s contents (record { choice = clock; workers = workers; before = before; now = now }) plan r → LeftAll s.fault s.platforms.items o → w.written_now ≡ w.written_before → Due o.fault (left_with o before now)
  stopped_plan s o before now (inl (inl memory, none)) h still =
      let left = left_nothing s.fault s.platforms.items o before now none h in
      ⊎_elim (λ (is : o.fault ≡ Some s.fault). inl (is ∙ ap Some memory, left.1, still)) (λ (is : o.fault ≡ Some fault.Memory). inl (is, left.1, still)) left.0
  stopped_plan s o before now (inl (inr (unread, is_rows, cause), none)) h still =
      let left = left_nothing s.fault s.platforms.items o before now none h in
      ⊎_elim
      (λ (is : o.fault ≡ Some s.fault). by_rows (record { fault = o.fault; left = left_with o before now; read = r; wrote = w }) unread refl (is ∙ ap Some is_rows, left.1, still) cause)
      (λ (is : o.fault ≡ Some fault.Memory). inl (is, left.1, still))
      left.0
  stopped_plan s o before now (inr ((platform, f), is_turn, run)) h still =
      left_all s.fault s.platforms.items o before now still
      (subst (λ e. Due (Some e) (over (left_by_run [] s.platforms.items) before now)) (sym is_turn) (by_turn platform f s.platforms.items before now still run)) h

  -- over its graph
  pub ended_run : (g : Graph) → plan.graph ≡ g → (ran : Result Outputs Stopped) (o : Ending) (before now : List ClockView) → IfOk ran (HasOutputs contents (record { choice = clock; workers = workers; before = before; now = now }) plan log) →
      IfErr ran (λ s. CauseOfStop s contents (record { choice = clock; workers = workers; before = before; now = now }) plan r) → HasEnded ran o w → UnlessMemory (record { fault = o.fault; left = left_with o before now; read = r; wrote = w }) (IsDueFor (Run workers clock log) contents g [])
  ended_run g same ran o before now run cause h = subst (λ z. UnlessMemory (record { fault = o.fault; left = left_with o before now; read = r; wrote = w }) (IsDueFor (Run workers clock log) contents z [])) same (by_result ran run cause h)
    where
      by_result : (ran : Result Outputs Stopped) → IfOk ran (HasOutputs contents (record { choice = clock; workers = workers; before = before; now = now }) plan log) → IfErr ran (λ s. CauseOfStop s contents (record { choice = clock; workers = workers; before = before; now = now }) plan r) → HasEnded ran o w →
          Due o.fault (left_with o before now)
      by_result (Ok ran) run cause h = wrote_plan ran o before now run h
      by_result (Err s) run cause h = stopped_plan s o before now cause h.0 h.1

-- however a run ends that left its platforms, the same is said of its clocks
ran_back : {C : Type 0} (clock : ClockChoice) (one other : Option Fault) (before now : List C) → has_run other ≡ true → AreBackBy clock one before now → AreBackBy clock other before now
ran_back Paced one other before now has kept = kept
ran_back (Step start step) one other before now has kept = kept
ran_back Machine one other before now has kept = (kept.0, λ e. absurd (never (sym has ∙ e)))
  where
    never : true ≡ false → ⊥
    never e = cc

-- unless memory ran out, the clocks come back
pub back : {C : Type 0} (ran : Result Outputs Stopped) (o : Ending) (w : SinkCall) (clock : ClockChoice) (before now : List C) → HasEnded ran o w → (stop_in ran ≢ Some fault.Memory → AreBackBy clock (stop_in ran) before now) → o.fault ≢ Some fault.Memory →
    AreBackBy clock o.fault before now
back (Ok ran) o w clock before now h kept never =
    let finished : AreBackBy clock None before now = kept (λ e. absurd cc) in
    ⊎_elim (λ all. ran_back clock None o.fault before now (ap has_run all.0) finished) (λ part. ran_back clock None o.fault before now (ap has_run part.0) finished) h
back (Err s) o w clock before now h kept never =
    ⊎_elim (λ is. subst (λ e. AreBackBy clock e before now) (sym is.0) (kept (λ e. never (is.0 ∙ e)))) (λ memory. absurd (never memory.0)) h.0

-- the clocks of a run that was not begun, or that left its platforms
pub back_unread : {C : Type 0} (clock : ClockChoice) (o : Option Fault) (clocks : List C) → AreBackBy clock o clocks clocks
back_unread Paced o clocks = refl
back_unread (Step start step) o clocks = refl
back_unread Machine o clocks = (refl, λ e. refl)

pub back_run : {C : Type 0} (clock : ClockChoice) (o : Option Fault) (before now : List C) → has_run o ≡ true → AreAsMany clock before now → AreBackBy clock o before now
back_run Paced o before now has kept = kept
back_run (Step start step) o before now has kept = kept
back_run Machine o before now has kept = (kept, λ e. absurd (never (sym has ∙ e)))
  where
    never : true ≡ false → ⊥
    never e = cc

-- how a run ended whose platforms ran
pub stop_has_run : (stopped : Option (ℕ × TurnFault)) (platforms : List PlatformView) (ran : Result Outputs Stopped) → IfErr ran (IsStop None stopped platforms) → stop_in ran ≢ Some fault.Memory → has_run (stop_in ran) ≡ true
stop_has_run stopped platforms (Ok ran) stops never = refl
stop_has_run None platforms (Err s) stops never = absurd (never (ap Some stops.0))
stop_has_run (Some (platform, turn.Long)) platforms (Err s) stops never = ap (λ f. has_run (Some f)) stops.0
stop_has_run (Some (platform, turn.Late actor tag reading limit)) platforms (Err s) stops never = ap (λ f. has_run (Some f)) stops.0

-- a graph without a plan was reported, or there was no memory for its line
pub plan_refused : (f : PlanFault) (reported : Fault) (g : Graph) (o : Ending) → CauseOfPlan f g → (reported ≡ fault_of_plan f) ⊎ (reported ≡ fault.Memory) → o.fault ≡ Some reported → left_by o ≡ leaves_nothing → EndsRefused o (λ a. AfterCycles g a (AfterOffsets g a ⊥))
plan_refused f reported g o cause report is none = (none, reported, is, λ r a same out. ⊎_elim (λ (e : reported ≡ fault_of_plan f). by_fault f cause a (subst (λ z. RefusedWith z a) e out)) (λ (e : reported ≡ fault.Memory). inl (subst (λ z. RefusedWith z a) e out)) report)
  where
    by_fault : (e : PlanFault) → CauseOfPlan e g → (a : Answer) → RefusedWith (fault_of_plan e) a → UnlessMemory a (λ a. AfterCycles g a (AfterOffsets g a ⊥))
    by_fault (plan.Cycle (cycle.Cycle actors)) k a out = inr (inl (actors, out, k))
    by_fault (plan.Cycle cycle.Memory) k a out = inl out
    by_fault (plan.Offset (offset.Infeasible send o slack)) k a out = inr (inr (k.0, inl (send, o, slack, out, k.1)))
    by_fault (plan.Offset offset.Memory) k a out = inl out
    by_fault plan.Memory k a out = inl out

pub no_plan_memory : (reported : Fault) (g : Graph) (o : Ending) → (reported ≡ fault.Memory) ⊎ (reported ≡ fault.Memory) → o.fault ≡ Some reported → left_by o ≡ leaves_nothing → EndsRefused o (λ a. AfterCycles g a (AfterOffsets g a ⊥))
no_plan_memory reported g o report is none = plan_refused plan.Memory reported g o tt report is none

-- a graph that is refused before its rows are read
module _ (o : Ending) (g : Graph) (refused : EndsRefused o (λ a. AfterCycles g a (AfterOffsets g a ⊥))) where
  pub unplanned : (before now : List ClockView) (contents : Contents) (r : SourceCall) (w : SinkCall) (Then : Answer → Parts → (ℕ → List Row) → Type 0) → w.written_now ≡ w.written_before →
      UnlessMemory (record { fault = o.fault; left = left_with o before now; read = r; wrote = w }) (λ a. AfterAdmission contents g [] a (Then a))
  unplanned before now contents r w Then still = past (refused.3 r a refl (refused.2, has_nothing o before now refused.0, still))
    where
      a : Answer
      a = record { fault = o.fault; left = left_with o before now; read = r; wrote = w }

      past : UnlessMemory a (λ a. AfterCycles g a (AfterOffsets g a ⊥)) → UnlessMemory a (λ a. AfterAdmission contents g [] a (Then a))
      past (inl out) = inl out
      past (inr (inl k)) = inr (inl k)
      past (inr (inr (free, inl k))) = inr (inr (free, inl k))
      past (inr (inr (free, inr k))) = absurd k.1

  -- its fault is one of these
  pub by_refusal : (Goal : Option Fault → Type 0) → ((actors : List ℕ) → Goal (Some (fault.Cycle actors))) → ((send : ℕ) (offset : ℤ) (slack : ℕ) → Goal (Some (fault.Infeasible send offset slack))) → Goal (Some fault.Memory) → Goal o.fault
  by_refusal Goal cyclic slow memory = by_stage (refused.3 r a refl (refused.2, has_nothing o [] [] refused.0, refl))
    where
      r : SourceCall
      r = record { asked_before = None; asked_now = None; before = 0; now = 0 }

      a : Answer
      a = record { fault = o.fault; left = left_by o; read = r; wrote = record { before = 0; now = 0; written_before = None; written_now = None } }

      by_stage : UnlessMemory a (λ a. AfterCycles g a (AfterOffsets g a ⊥)) → Goal o.fault
      by_stage (inl out) = subst Goal (sym out.0) memory
      by_stage (inr (inl k)) = subst Goal (sym k.1.0) (cyclic k.0)
      by_stage (inr (inr (free, inl k))) = subst Goal (sym k.3.0) (slow k.0 k.1 k.2)
      by_stage (inr (inr (free, inr k))) = absurd k.1
