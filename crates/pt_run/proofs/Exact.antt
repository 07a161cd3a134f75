-- Where a cause is there, and none before it, its answer comes.
use Rattle.std.proofs.Common.{◌≡◌, ℕ, ◌⊎◌, Bool, false, List, [], ◌∷◌, Option, Some, None, Result, Ok, Err, ℤ, refl, sym, ap, subst, ◌∙◌, inl, inr, ⊎_elim}
use Rattle.pt_types.specs.declared.graph.Graph.{Graph}
use Rattle.pt_types.specs.declared.rows.Row.{Row}
use Rattle.pt_blocks.specs.declared.blocks.Named.{Named}
use Rattle.pt_graph_text.specs.declared.fault.GraphFault.{GraphFault}
use Rattle.pt_types.specs.Lawful.{IsLawful}
use Rattle.pt_slacks.specs.Rings.{IsRing}
use Rattle.pt_slacks.specs.Slacks.{Admits}
use Rattle.pt_slacks.proofs.Refusing.{rings_admit_nothing}
use Rattle.pt_causality.specs.Ranked.{IsFreeCycle}
use Rattle.pt_offsets.specs.Margins.{IsFirstInfeasible}
use Rattle.pt_offsets.specs.Plans.{Parts}
use Rattle.pt_sensors.specs.declared.fault.RowFault.{RowFault}
use Rattle.pt_semantics.specs.Cycles.{NoFreeCycle}
use Rattle.pt_semantics.specs.Offsets.{IsFeasible}
use Rattle.pt_semantics.proofs.Lookups.{none_some}
use Rattle.pt_turn.specs.Platforms.{PlatformView}
use Rattle.pt_sensor_files.specs.declared.recorded_fault.LateRows.{LateRows}
use Rattle.pt_sensor_files.specs.declared.recorded_fault.LateRows.TheVariants.{Refused, Taken}
use Rattle.pt_io.specs.Calls.{Contents, SourceCall, SinkCall}
use Rattle.pt_sensor_files.specs.Recorded.{AreRows, SensorFails, SensorLate}
use Rattle.pt_run.specs.RunsAgreeing.{ReportsSensors}
use Rattle.pt_turn.specs.declared.fault.TurnFault.{TurnFault}
use Rattle.pt_turn.specs.declared.fault.TurnFault.TheVariants as turn
use Rattle.pt_words.specs.declared.orders.ClockChoice.{ClockChoice}
use Rattle.pt_words.specs.declared.orders.ClockChoice.TheVariants.{Paced}
use Rattle.pt_run.specs.Readings.{RunClocks}
use Rattle.pt_run.specs.Runs.{IsOutcomeOver}
use Rattle.pt_run.specs.declared.fault.Fault.{Fault}
use Rattle.pt_run.specs.declared.fault.Fault.TheVariants as fault
use Rattle.pt_words.specs.declared.orders.Command.{Command}
use Rattle.pt_words.specs.declared.orders.Command.TheVariants.{Run, Check, Meaning, Slacks}
use Rattle.pt_run.specs.Causes.{IsTooLongForAll}
use Rattle.pt_run.proofs.CauseFields.{AsksFeasible, OfRows}
use Rattle.pt_run.proofs.ByCause.{CanAudit, ComesByCause, Defines, WantsGraph, WantsMemory, WantsRows, refused_as}
use Rattle.pt_words.specs.Grammar.{GraphFile, Order, audit, make, migrate, over, replay}
use Rattle.pt_run.specs.Reporting.{paced_run}
use Rattle.pt_run.specs.Written.{GraphWith, Leaves, run_clocks}
use Rattle.pt_run.proofs.ByFault.{CauseOf, CauseOfCheck, CauseOfMeaning, CauseOfNoSlacks, CauseOfRun, CauseOfText, Ends, EndsBy, EndsMigrated, IsMeant, Writes}
use Rattle.pt_run.proofs.Audited.{Audited, audited, finds_lawful, finds_unlawful, finds_verdict}
use Rattle.pt_run.proofs.AirFound.{finds_air}
use Rattle.pt_run.proofs.Complete.{agrees, ok_err, same_ok, too_late}
use Rattle.pt_run.proofs.PastRows.{PastRows, as_run, audit_past, past_rows, replay_past}
use Rattle.pt_run.proofs.OneCause.{AllHave, fails_all, fails_late, fails_rows, late_all, meant_long, one_fails, one_infeasible, one_late, same_err}
use Rattle.pt_run.specs.GraphFiles.{graph_by}
use Rattle.pt_sensor_files.specs.Bytes.{OfBytes}

-- a graph has no cycle that takes no time, and each sender can send in time, if the command refuses others
abbrev IsFit : Command → Graph → Type 0
IsFit command g = NoFreeCycle g × (AsksFeasible command → IsFeasible g)

-- `run` and `meaning`, which read the sensors' files
abbrev ReadsSensors : Command → Type 0
ReadsSensors (Run workers clock log) = Unit {0}
ReadsSensors Check = ⊥
ReadsSensors Meaning = Unit {0}
ReadsSensors Slacks = ⊥

-- all was written, or a write failed
abbrev IsPut : Option Fault → Type 0
IsPut outcome = (outcome ≡ None) ⊎ (outcome ≡ Some fault.Write)

-- some slacks admit a graph
abbrev HasSlacks : Graph → Type 0
HasSlacks g = (slack : ℕ → ℕ) × Admits g slack

-- what an answer says of the graph
data Answer (command : Command) (contents : Contents) (g : Graph) (outcome : Option Fault) : Type 0 where
  memory : outcome ≡ Some fault.Memory → Answer command contents g outcome
  graph_unread : outcome ≡ Some (fault.Read None) → Answer command contents g outcome
  cyclic : (actors : List ℕ) → outcome ≡ Some (fault.Cycle actors) → IsFreeCycle g actors → Answer command contents g outcome
  slow : (send : ℕ) (offset : ℤ) (slack : ℕ) → outcome ≡ Some (fault.Infeasible send offset slack) → NoFreeCycle g → AsksFeasible command → IsFirstInfeasible g send offset slack → Answer command contents g outcome
  ringed : (sends : List ℕ) (gain : ℕ) → outcome ≡ Some (fault.Ring sends gain) → NoFreeCycle g → command ≡ Slacks → IsRing g sends gain → Answer command contents g outcome
  unread : (actor : ℕ) → outcome ≡ Some (fault.Read (Some actor)) → IsFit command g → ReadsSensors command → Answer command contents g outcome
  wrong : (actor : ℕ) (f : RowFault) → outcome ≡ Some (fault.Sensor actor f) → IsFit command g → OfRows command (λ late. SensorFails late contents g actor f) → Answer command contents g outcome
  tardy : (actor row seen limit : ℕ) → outcome ≡ Some (fault.LateRow actor row seen limit) → IsFit command g → OfRows command (λ late. (late ≡ Refused) × SensorLate contents g actor row seen limit) → Answer command contents g outcome
  long : outcome ≡ Some (fault.Long None) → IsFit command g → OfRows command (λ late. AllHave late contents g) → Answer command contents g outcome
  whole : IsFit command g → (ReadsSensors command → OfRows command (λ late. AllHave late contents g)) → (command ≡ Meaning → (text : List ℕ) × IsMeant contents g text) → (command ≡ Slacks → HasSlacks g × IsPut outcome) → Answer command contents g outcome

run_meaning : (workers : ℕ) (clock : ClockChoice) (log : Bool) → Run workers clock log ≡ Meaning → ⊥
run_meaning workers clock log e = cc

run_slacks : (workers : ℕ) (clock : ClockChoice) (log : Bool) → Run workers clock log ≡ Slacks → ⊥
run_slacks workers clock log e = cc

check_meaning : Check ≡ Meaning → ⊥
check_meaning e = cc

check_slacks : Check ≡ Slacks → ⊥
check_slacks e = cc

meaning_slacks : Meaning ≡ Slacks → ⊥
meaning_slacks e = cc

slacks_meaning : Slacks ≡ Meaning → ⊥
slacks_meaning e = cc

-- `slacks` refuses no sender and reads no sensor's file
no_judge : (command : Command) → command ≡ Slacks → AsksFeasible command → ⊥
no_judge (Run workers clock log) e a = run_slacks workers clock log e
no_judge Check e a = check_slacks e
no_judge Meaning e a = a
no_judge Slacks e a = a

no_rows : (command : Command) (A : LateRows → Type 0) → command ≡ Slacks → OfRows command A → ⊥
no_rows (Run workers clock log) A e a = run_slacks workers clock log e
no_rows Check A e a = a
no_rows Meaning A e a = meaning_slacks e
no_rows Slacks A e a = a

taken_refused : Taken ≡ Refused → ⊥
taken_refused e = cc

-- a fault over a graph
module _ (left : Leaves) (contents : Contents) (g : Graph) (others : List (List ℕ)) (r : SourceCall) where
  run_kept : (workers : ℕ) (clock : ClockChoice) (log : Bool) (c : RunClocks) (plan : Parts) (platforms : List PlatformView) (stop : Option (ℕ × TurnFault)) (outcome : Option Fault) → NoFreeCycle g → plan.graph ≡ g → IsOutcomeOver contents c plan platforms stop → Answer (Run workers clock log) contents g outcome
  run_kept workers clock log c plan platforms stop outcome free same run =
      whole (free, λ e. subst IsFeasible same run.admitted.feasible) (λ e. subst (λ z. AllHave Refused contents z) same (run.rows, run.sensors, run.in_time)) (λ e. absurd (run_meaning workers clock log e)) (λ e. absurd (run_slacks workers clock log e))

  by_run : (workers : ℕ) (clock : ClockChoice) (log : Bool) (f : Fault) → NoFreeCycle g → CauseOfRun workers clock f left contents g others r → Answer (Run workers clock log) contents g (Some f)
  by_run workers clock log (fault.Infeasible send offset slack) free h = slow send offset slack refl free tt h.0
  by_run workers clock log (fault.Read (Some actor)) free h = unread actor refl (free, λ e. h.0) tt
  by_run workers clock log (fault.Sensor actor f) free h = wrong actor f refl (free, λ e. h.0) h.1
  by_run workers clock log (fault.LateRow actor row seen limit) free h = tardy actor row seen limit refl (free, λ e. h.0) (refl, h.1)
  by_run workers clock log (fault.Long (Some platform)) free h = run_kept workers clock log (run_clocks workers clock left) h.plan left.platforms (Some (platform, turn.Long)) (Some (fault.Long (Some platform))) free h.graph h.run
  by_run workers clock log (fault.LateMessage platform actor tag reading limit) free h =
      run_kept workers clock log (run_clocks workers clock left) h.plan left.platforms (Some (platform, turn.Late actor tag reading limit)) (Some (fault.LateMessage platform actor tag reading limit)) free h.graph h.run
  by_run workers clock log f free h = absurd h

  by_check : (f : Fault) → NoFreeCycle g → CauseOfCheck f g → Answer Check contents g (Some f)
  by_check (fault.Infeasible send offset slack) free h = slow send offset slack refl free tt h
  by_check f free h = absurd h

  by_meaning : (f : Fault) → NoFreeCycle g → CauseOfMeaning f contents g others r → Answer Meaning contents g (Some f)
  by_meaning (fault.Read (Some actor)) free h = unread actor refl (free, λ e. absurd e) tt
  by_meaning (fault.Sensor actor f) free h = wrong actor f refl (free, λ e. absurd e) h
  by_meaning (fault.Long None) free h = long refl (free, λ e. absurd e) (h.rows, h.sensors, λ a. tt)
  by_meaning f free h = absurd h

  by_slacks : (f : Fault) → NoFreeCycle g → CauseOfNoSlacks f g → Answer Slacks contents g (Some f)
  by_slacks (fault.Ring sends gain) free h = ringed sends gain refl free refl h
  by_slacks f free h = absurd h

  by_text : (command : Command) (f : Fault) → NoFreeCycle g → CauseOfText command f left contents g others r → Answer command contents g (Some f)
  by_text (Run workers clock log) f free h = by_run workers clock log f free h
  by_text Check f free h = by_check f free h.0
  by_text Meaning f free h = by_meaning f free h.0
  by_text Slacks f free h = by_slacks f free h.0

  by_cause : (command : Command) (f : Fault) → CauseOf command f left contents g others r → Answer command contents g (Some f)
  by_cause command (fault.Cycle actors) h = cyclic actors refl h.0
  by_cause command fault.Memory h = memory refl
  by_cause command f h = by_text command f h.0 h.1

  wrote : (command : Command) (l : Leaves) (text : List ℕ) (outcome : Option Fault) → IsPut outcome → Writes command contents g l text → Answer command contents g outcome
  wrote (Run workers clock log) l text outcome put (free, run) = run_kept workers clock log (run_clocks workers clock l) run.plan l.platforms None outcome free run.graph run.finished.run
  wrote Check l text outcome put (free, (none, checked)) = whole (free, λ e. checked.feasible) (λ e. absurd e) (λ e. absurd (check_meaning e)) (λ e. absurd (check_slacks e))
  wrote Meaning l text outcome put (free, (none, meant)) = whole (free, λ e. absurd e) (λ e. (meant.rows, meant.sensors, λ a. tt)) (λ e. (text, meant)) (λ e. absurd (meaning_slacks e))
  wrote Slacks l text outcome put (free, (none, slacked)) = whole (free, λ e. absurd e) (λ e. absurd e) (λ e. absurd (slacks_meaning e)) (λ e. ((slacked.slack, slacked.least.admits), put))

-- over a graph file with known content
module _ (contents : Contents) (blocks : List Named) (graph_file : GraphFile) (bytes : List ℕ) (reported : contents graph_file.name ≡ Some bytes) (left : Leaves) (r : SourceCall) (w : SinkCall) where
  defines : (d : Result Graph GraphFault) → graph_by blocks graph_file bytes ≡ d → OfBytes (contents graph_file.name) (λ bytes. graph_by blocks graph_file bytes ≡ d)
  defines d is = subst (λ z. OfBytes z (λ bytes. graph_by blocks graph_file bytes ≡ d)) (sym reported) is

  one_defined : (d e : Result Graph GraphFault) → graph_by blocks graph_file bytes ≡ d → OfBytes (contents graph_file.name) (λ bytes. graph_by blocks graph_file bytes ≡ e) → d ≡ e
  one_defined d e is other = agrees (graph_by blocks graph_file) (contents graph_file.name) bytes d e reported (defines d is) other

  answer : (command : Command) (g : Graph) (outcome : Option Fault) → graph_by blocks graph_file bytes ≡ Ok g → EndsBy outcome left (Some (command, graph_file)) contents blocks r w → Answer command contents g outcome
  answer command g outcome is ends = by_outcome outcome ends
    where
      this_graph : (h : Graph) → OfBytes (contents graph_file.name) (λ bytes. graph_by blocks graph_file bytes ≡ Ok h) → h ≡ g
      this_graph h other = sym (same_ok {E = GraphFault} g h (one_defined (Ok g) (Ok h) is other))

      wrote_here : (o : Option Fault) (l : Leaves) (text : List ℕ) (h : Graph) → IsPut o → OfBytes (contents graph_file.name) (λ bytes. graph_by blocks graph_file bytes ≡ Ok h) → Writes command contents h l text → Answer command contents g o
      wrote_here o l text h put file writes = wrote left contents g (graph_file.name ∷ []) r command l text o put (subst (λ z. Writes command contents z l text) (this_graph h file) writes)

      fails_here : (f : Fault) → GraphWith contents blocks graph_file (λ h. CauseOf command f left contents h (graph_file.name ∷ []) r) → Answer command contents g (Some f)
      fails_here f (h, file, cause) = by_cause left contents g (graph_file.name ∷ []) r command f (subst (λ z. CauseOf command f left contents z (graph_file.name ∷ []) r) (this_graph h file) cause)

      by_outcome : (o : Option Fault) → EndsBy o left (Some (command, graph_file)) contents blocks r w → Answer command contents g o
      by_outcome None (text, (h, file, writes), appends) = wrote_here None left text h (inl refl) file writes
      by_outcome (Some fault.Write) (rose, (none, misses, text, (h, file, writes), part)) = wrote_here (Some fault.Write) (record left { misses = misses }) text h (inr refl) file writes
      by_outcome (Some fault.Usage) k = absurd k
      by_outcome (Some (fault.Graph f)) k = absurd (ok_err g f (one_defined (Ok g) (Err f) is k.0))
      by_outcome (Some (fault.Read None)) k = graph_unread refl
      by_outcome (Some fault.Memory) k = memory refl
      by_outcome (Some f) k = fails_here f k.0

  -- a file with a fault
  refused : (command : Command) (f : GraphFault) (outcome : Option Fault) → graph_by blocks graph_file bytes ≡ Err f → EndsBy outcome left (Some (command, graph_file)) contents blocks r w → (outcome ≡ Some (fault.Graph f)) ⊎ WantsGraph outcome
  refused command f outcome is ends = by_outcome outcome ends
    where
      no_graph : (h : Graph) → OfBytes (contents graph_file.name) (λ bytes. graph_by blocks graph_file bytes ≡ Ok h) → ⊥
      no_graph h other = ok_err h f (sym (one_defined (Err f) (Ok h) is other))

      by_outcome : (o : Option Fault) → EndsBy o left (Some (command, graph_file)) contents blocks r w → (o ≡ Some (fault.Graph f)) ⊎ WantsGraph o
      by_outcome None (text, (h, file, writes), appends) = absurd (no_graph h file)
      by_outcome (Some fault.Write) (rose, (none, misses, text, (h, file, writes), part)) = absurd (no_graph h file)
      by_outcome (Some fault.Usage) k = absurd k
      by_outcome (Some (fault.Graph e)) k = inl (ap (λ z. Some (fault.Graph z)) (sym (same_err {X = Graph} f e (one_defined (Err f) (Err e) is k.0))))
      by_outcome (Some (fault.Read None)) k = inr (inr refl)
      by_outcome (Some fault.Memory) k = inr (inl refl)
      by_outcome (Some e) k = absurd (no_graph k.0.0 k.0.1)

  -- an audit or a replay of a graph
  past_answer : (g : Graph) (outcome : Option Fault) → graph_by blocks graph_file bytes ≡ Ok g → PastRows left graph_file contents blocks r w outcome → Answer paced_run contents g outcome
  past_answer g outcome is (past_rows h) =
      let same : h.plan.graph ≡ g = sym (same_ok {E = GraphFault} g h.plan.graph (one_defined (Ok g) (Ok h.plan.graph) is h.file)) in
      whole (subst NoFreeCycle same h.over.admitted.no_free_cycle, λ e. subst IsFeasible same h.over.admitted.feasible) (λ e. subst (λ z. AllHave Refused contents z) same (h.over.rows, h.over.sensors, h.over.in_time))
      (λ e. absurd (run_meaning 1 Paced false e)) (λ e. absurd (run_slacks 1 Paced false e))
  past_answer g outcome is (as_run k) = answer paced_run g outcome is k

  -- and of a file with a fault
  past_refused : (f : GraphFault) (outcome : Option Fault) → graph_by blocks graph_file bytes ≡ Err f → PastRows left graph_file contents blocks r w outcome → (outcome ≡ Some (fault.Graph f)) ⊎ WantsGraph outcome
  past_refused f outcome is (past_rows h) = absurd (ok_err h.plan.graph f (sym (one_defined (Err f) (Ok h.plan.graph) is h.file)))
  past_refused f outcome is (as_run k) = refused paced_run f outcome is k

  -- `migrate` of a file with a fault
  unmigrated : (f : GraphFault) (outcome : Option Fault) → graph_by blocks graph_file bytes ≡ Err f → EndsMigrated outcome left graph_file contents blocks r w → (outcome ≡ Some (fault.Graph f)) ⊎ WantsGraph outcome
  unmigrated f outcome is ends = by_outcome outcome ends
    where
      no_graph : (h : Graph) → OfBytes (contents graph_file.name) (λ bytes. graph_by blocks graph_file bytes ≡ Ok h) → ⊥
      no_graph h other = ok_err h f (sym (one_defined (Err f) (Ok h) is other))

      by_outcome : (o : Option Fault) → EndsMigrated o left graph_file contents blocks r w → (o ≡ Some (fault.Graph f)) ⊎ WantsGraph o
      by_outcome None k = absurd (no_graph k.1.0 k.1.1)
      by_outcome (Some fault.Write) k = absurd (no_graph k.2.0 k.2.1)
      by_outcome (Some (fault.Graph e)) k = inl (ap (λ z. Some (fault.Graph z)) (sym (same_err {X = Graph} f e (one_defined (Err f) (Err e) is k.1))))
      by_outcome (Some (fault.Read None)) k = inr (inr refl)
      by_outcome (Some fault.Memory) k = inr (inl refl)
      by_outcome (Some e) k = absurd k.1

  -- and of one that defines a graph
  migrated : (g : Graph) (outcome : Option Fault) → graph_by blocks graph_file bytes ≡ Ok g → EndsMigrated outcome left graph_file contents blocks r w → ((outcome ≡ None) ⊎ (outcome ≡ Some fault.Write)) ⊎ WantsGraph outcome
  migrated g outcome is ends = by_outcome outcome ends
    where
      by_outcome : (o : Option Fault) → EndsMigrated o left graph_file contents blocks r w → ((o ≡ None) ⊎ (o ≡ Some fault.Write)) ⊎ WantsGraph o
      by_outcome None k = inl (inl refl)
      by_outcome (Some fault.Write) k = inl (inr refl)
      by_outcome (Some (fault.Graph f)) k = absurd (ok_err g f (one_defined (Ok g) (Err f) is k.1))
      by_outcome (Some (fault.Read None)) k = inr (inr refl)
      by_outcome (Some fault.Memory) k = inr (inl refl)
      by_outcome (Some e) k = absurd k.1

same_paced : (n : GraphFile) (command : Command) (graph_file : GraphFile) → Some (over paced_run n) ≡ Some (over command graph_file) → (command ≡ paced_run) × (n ≡ graph_file)
same_paced n command graph_file e = (cc, cc)

-- a call that is refused as this command on this file ends as that command does, or as an audit or a replay
refused_by : (o : Option Fault) (left : Leaves) (order : Option Order) (contents : Contents) (blocks : List Named) (r : SourceCall) (w : SinkCall) (command : Command) (graph_file : GraphFile) → refused_as order ≡ Some (over command graph_file) → Ends o left order contents blocks r w →
    EndsBy o left (Some (command, graph_file)) contents blocks r w ⊎ ((command ≡ paced_run) × PastRows left graph_file contents blocks r w o)
refused_by o left None contents blocks r w command graph_file e ends = absurd (none_some (over command graph_file) e)
refused_by o left (Some (over c n)) contents blocks r w command graph_file e ends = inl (subst (λ z. Ends o left z contents blocks r w) e ends)
refused_by o left (Some (make n k)) contents blocks r w command graph_file e ends = absurd (other e)
  where
    other : Some (make n k) ≡ Some (over command graph_file) → ⊥
    other e = cc
refused_by o left (Some (migrate n)) contents blocks r w command graph_file e ends = absurd (other e)
  where
    other : Some (migrate n) ≡ Some (over command graph_file) → ⊥
    other e = cc
refused_by o left (Some (audit n log)) contents blocks r w command graph_file e ends = let (is, names) = same_paced n command graph_file e in inr (is, subst (λ z. PastRows left z contents blocks r w o) names (audit_past left n contents blocks r w log o ends))
refused_by o left (Some (replay n air workers log)) contents blocks r w command graph_file e ends = let (is, names) = same_paced n command graph_file e in inr (is, subst (λ z. PastRows left z contents blocks r w o) names (replay_past left n contents blocks r w air log o ends))

-- the words are no command
usage : (left : Leaves) (contents : Contents) (blocks : List Named) (r : SourceCall) (w : SinkCall) (outcome : Option Fault) → Ends outcome left None contents blocks r w → (outcome ≡ Some fault.Usage) ⊎ WantsMemory outcome
usage left contents blocks r w (Some fault.Memory) k = inr refl
usage left contents blocks r w None k = inl k.0
usage left contents blocks r w (Some f) k = inl k.0

-- two facts of the rows that a command reads
both : (command : Command) (A B : LateRows → Type 0) (C : Type 0) → ((late : LateRows) → A late → B late → C) → OfRows command A → OfRows command B → C
both (Run workers clock log) A B C h a b = h Refused a b
both Meaning A B C h a b = h Taken a b
both Check A B C h a b = absurd a
both Slacks A B C h a b = absurd a

reads_rows : (command : Command) (A : LateRows → Type 0) → OfRows command A → ReadsSensors command
reads_rows (Run workers clock log) A a = tt
reads_rows Meaning A a = tt
reads_rows Check A a = absurd a
reads_rows Slacks A a = absurd a

-- by what the answer says
module _ (contents : Contents) (g : Graph) (outcome : Option Fault) where
  cycle : (command : Command) → (NoFreeCycle g → ⊥) → Answer command contents g outcome → ((actors : List ℕ) × IsFreeCycle g actors × (outcome ≡ Some (fault.Cycle actors))) ⊎ WantsGraph outcome
  cycle command never (memory is) = inr (inl is)
  cycle command never (graph_unread is) = inr (inr is)
  cycle command never (cyclic actors is h) = inl (actors, h, is)
  cycle command never (slow send offset slack is free judges h) = absurd (never free)
  cycle command never (ringed sends gain is free slacks h) = absurd (never free)
  cycle command never (unread actor is fit reads) = absurd (never fit.0)
  cycle command never (wrong actor f is fit h) = absurd (never fit.0)
  cycle command never (tardy actor row seen limit is fit h) = absurd (never fit.0)
  cycle command never (long is fit h) = absurd (never fit.0)
  cycle command never (whole fit rows meant slacked) = absurd (never fit.0)

  module _ (free : NoFreeCycle g) where
    infeasible : (command : Command) (send : ℕ) (offset : ℤ) (slack : ℕ) → AsksFeasible command → IsFirstInfeasible g send offset slack → Answer command contents g outcome → (outcome ≡ Some (fault.Infeasible send offset slack)) ⊎ WantsGraph outcome
    infeasible command send offset slack judges first a = by_answer a
      where
        unfit : IsFit command g → ⊥
        unfit fit = too_late g send slack offset (fit.1 judges) first

        by_answer : Answer command contents g outcome → (outcome ≡ Some (fault.Infeasible send offset slack)) ⊎ WantsGraph outcome
        by_answer (memory is) = inr (inl is)
        by_answer (graph_unread is) = inr (inr is)
        by_answer (cyclic actors is h) = absurd (free h.first h.edge h.path h.cycle h.free)
        by_answer (slow other offset2 slack2 is free2 judges2 h) = inl (is ∙ ap Some (one_infeasible g send other slack slack2 offset offset2 first h))
        by_answer (ringed sends gain is free2 slacks h) = absurd (no_judge command slacks judges)
        by_answer (unread actor is fit reads) = absurd (unfit fit)
        by_answer (wrong actor f is fit h) = absurd (unfit fit)
        by_answer (tardy actor row seen limit is fit h) = absurd (unfit fit)
        by_answer (long is fit h) = absurd (unfit fit)
        by_answer (whole fit rows meant slacked) = absurd (unfit fit)

    ring : ((slack : ℕ → ℕ) → Admits g slack → ⊥) → Answer Slacks contents g outcome → ((sends : List ℕ) × (gain : ℕ) × IsRing g sends gain × (outcome ≡ Some (fault.Ring sends gain))) ⊎ WantsGraph outcome
    ring none (memory is) = inr (inl is)
    ring none (graph_unread is) = inr (inr is)
    ring none (cyclic actors is h) = absurd (free h.first h.edge h.path h.cycle h.free)
    ring none (slow send offset slack is free2 judges h) = absurd judges
    ring none (ringed sends gain is free2 slacks h) = inl (sends, gain, h, is)
    ring none (unread actor is fit reads) = absurd reads
    ring none (wrong actor f is fit h) = absurd h
    ring none (tardy actor row seen limit is fit h) = absurd h
    ring none (long is fit h) = absurd h
    ring none (whole fit rows meant slacked) = let (has, put) = slacked refl in absurd (none has.0 has.1)

    least_slacks : (slack : ℕ → ℕ) → IsLawful g → Admits g slack → Answer Slacks contents g outcome → IsPut outcome ⊎ WantsGraph outcome
    least_slacks slack lawful admits (memory is) = inr (inl is)
    least_slacks slack lawful admits (graph_unread is) = inr (inr is)
    least_slacks slack lawful admits (cyclic actors is h) = absurd (free h.first h.edge h.path h.cycle h.free)
    least_slacks slack lawful admits (slow send offset own is free2 judges h) = absurd judges
    least_slacks slack lawful admits (ringed sends gain is free2 slacks h) = absurd (rings_admit_nothing g sends gain slack lawful h admits)
    least_slacks slack lawful admits (unread actor is fit reads) = absurd reads
    least_slacks slack lawful admits (wrong actor f is fit h) = absurd h
    least_slacks slack lawful admits (tardy actor row seen limit is fit h) = absurd h
    least_slacks slack lawful admits (long is fit h) = absurd h
    least_slacks slack lawful admits (whole fit rows meant slacked) = let (has, put) = slacked refl in inl put

    module _ (reported : ReportsSensors contents g) where
      sensor : (command : Command) (actor : ℕ) (f : RowFault) → (AsksFeasible command → IsFeasible g) → OfRows command (λ late. SensorFails late contents g actor f) → Answer command contents g outcome → (outcome ≡ Some (fault.Sensor actor f)) ⊎ WantsRows outcome
      sensor command actor f feasible fails a = by_answer a
        where
          have_rows : OfRows command (λ late. AllHave late contents g) → ⊥
          have_rows all = both command (λ late. SensorFails late contents g actor f) (λ late. AllHave late contents g) ⊥ (λ late h k. fails_all contents g reported late actor f h k) fails all

          by_answer : Answer command contents g outcome → (outcome ≡ Some (fault.Sensor actor f)) ⊎ WantsRows outcome
          by_answer (memory is) = inr (inl (inl is))
          by_answer (graph_unread is) = inr (inl (inr is))
          by_answer (cyclic actors is h) = absurd (free h.first h.edge h.path h.cycle h.free)
          by_answer (slow send offset slack is free2 judges h) = absurd (too_late g send slack offset (feasible judges) h)
          by_answer (ringed sends gain is free2 slacks h) = absurd (no_rows command (λ late. SensorFails late contents g actor f) slacks fails)
          by_answer (unread other is fit reads) = inr (inr (other, is))
          by_answer (wrong other e is fit h) =
              inl (is ∙ ap Some (both command (λ late. SensorFails late contents g actor f) (λ late. SensorFails late contents g other e) (fault.Sensor other e ≡ fault.Sensor actor f) (λ late p q. one_fails contents g reported late actor other f e p q) fails h))
          by_answer (tardy other row seen limit is fit h) =
              absurd (both command (λ late. SensorFails late contents g actor f) (λ late. (late ≡ Refused) × SensorLate contents g other row seen limit) ⊥
              (λ late p q. fails_late contents g reported actor other row seen limit f (subst (λ l. SensorFails l contents g actor f) q.0 p) q.1) fails h)
          by_answer (long is fit h) = absurd (have_rows h)
          by_answer (whole fit rows meant slacked) = absurd (have_rows (rows (reads_rows command (λ late. SensorFails late contents g actor f) fails)))

      first_late : (workers : ℕ) (clock : ClockChoice) (log : Bool) (actor row seen limit : ℕ) → IsFeasible g → SensorLate contents g actor row seen limit → Answer (Run workers clock log) contents g outcome → (outcome ≡ Some (fault.LateRow actor row seen limit)) ⊎ WantsRows outcome
      first_late workers clock log actor row seen limit feasible late (memory is) = inr (inl (inl is))
      first_late workers clock log actor row seen limit feasible late (graph_unread is) = inr (inl (inr is))
      first_late workers clock log actor row seen limit feasible late (cyclic actors is h) = absurd (free h.first h.edge h.path h.cycle h.free)
      first_late workers clock log actor row seen limit feasible late (slow send offset slack is free2 judges h) = absurd (too_late g send slack offset feasible h)
      first_late workers clock log actor row seen limit feasible late (ringed sends gain is free2 slacks h) = absurd (run_slacks workers clock log slacks)
      first_late workers clock log actor row seen limit feasible late (unread other is fit reads) = inr (inr (other, is))
      first_late workers clock log actor row seen limit feasible late (wrong other f is fit h) = absurd (fails_late contents g reported other actor row seen limit f h late)
      first_late workers clock log actor row seen limit feasible late (tardy other row2 seen2 limit2 is fit h) = inl (is ∙ ap Some (one_late contents g reported actor other row row2 seen seen2 limit limit2 late h.1))
      first_late workers clock log actor row seen limit feasible late (long is fit h) = absurd (late_all contents g reported actor row seen limit late h)
      first_late workers clock log actor row seen limit feasible late (whole fit rows meant slacked) = absurd (late_all contents g reported actor row seen limit late (rows tt))

      long_meaning : (rows : ℕ → List Row) → AreRows contents g rows → IsTooLongForAll g rows → Answer Meaning contents g outcome → (outcome ≡ Some (fault.Long None)) ⊎ WantsRows outcome
      long_meaning rows are too_long (memory is) = inr (inl (inl is))
      long_meaning rows are too_long (graph_unread is) = inr (inl (inr is))
      long_meaning rows are too_long (cyclic actors is h) = absurd (free h.first h.edge h.path h.cycle h.free)
      long_meaning rows are too_long (slow send offset slack is free2 judges h) = absurd judges
      long_meaning rows are too_long (ringed sends gain is free2 slacks h) = absurd (meaning_slacks slacks)
      long_meaning rows are too_long (unread other is fit reads) = inr (inr (other, is))
      long_meaning rows are too_long (wrong other f is fit h) = absurd (fails_rows contents g reported Taken other f (rows other) h (are other))
      long_meaning rows are too_long (tardy other row seen limit is fit h) = absurd (taken_refused h.0)
      long_meaning rows are too_long (long is fit h) = inl is
      long_meaning rows are too_long (whole fit had meant slacked) = let (text, all) = meant refl in absurd (meant_long contents g text rows reported are all too_long)

pub exact : (o : Option Fault) (left : Leaves) (order : Option Order) (contents : Contents) (blocks : List Named) (r : SourceCall) (w : SinkCall) → Ends o left order contents blocks r w → ComesByCause o order contents blocks
exact o left order contents blocks r w ends = record {
  usage = λ none. usage left contents blocks r w o (subst (λ z. Ends o left z contents blocks r w) none ends);
  graph = λ command f d. no_graph command f d;
  cycle = λ command g d never. cycle contents g o command never (over_graph command g d);
  infeasible = λ command g send offset slack judges d free first. infeasible contents g o free command send offset slack judges first (over_graph command g d);
  sensor = λ command g actor f reads fails. sensor contents g o reads.no_free_cycle reads.files command actor f reads.feasible fails (over_graph command g reads.graph);
  late_row = λ workers clock log g actor row seen limit reads late. first_late contents g o reads.no_free_cycle reads.files workers clock log actor row seen limit (reads.feasible tt) late (over_graph (Run workers clock log) g reads.graph);
  long_meaning = λ g rows reads are too_long. long_meaning contents g o reads.no_free_cycle reads.files rows are too_long (over_graph Meaning g reads.graph);
  ring = λ g d free none. ring contents g o free none (over_graph Slacks g (by_slacks g d));
  slacked = λ g slack lawful d free admits. least_slacks contents g o free slack lawful admits (over_graph Slacks g (by_slacks g d));
  unmigrated = λ f d. unmigrated contents blocks d.graph_file d.bytes d.reported left r w f o d.defines (by_migrate (Err f) d);
  migrated = λ g d. migrated contents blocks d.graph_file d.bytes d.reported left r w g o d.defines (by_migrate (Ok g) d);
  lawful = λ plan rows bytes can lawful. finds_lawful plan rows bytes o lawful (by_audit plan rows bytes can);
  unlawful = λ plan rows bytes can never. finds_unlawful plan rows bytes o never (by_audit plan rows bytes can);
  air = λ g bytes f can is. finds_air order left contents blocks r w g bytes f can is o (by_words (replay can.graph_file can.air can.workers can.log) can.words);
  verdict = λ plan rows bytes v can refuses. finds_verdict plan rows bytes o v refuses (by_audit plan rows bytes can);
}
  where
    by_words : (z : Order) → order ≡ Some z → Ends o left (Some z) contents blocks r w
    by_words z words = subst (λ z. Ends o left z contents blocks r w) words ends

    by_audit : (plan : Parts) (rows : ℕ → List Row) (bytes : List ℕ) (can : CanAudit order contents blocks plan rows bytes) → Audited plan rows bytes o
    by_audit plan rows bytes can = audited order left contents blocks r w plan rows bytes can o (by_words (audit can.graph_file can.log) can.words)

    by_slacks : (g : Graph) → Defines order contents blocks (over Slacks) (Ok g) → Defines (refused_as order) contents blocks (over Slacks) (Ok g)
    by_slacks g d = record { graph_file = d.graph_file; words = ap refused_as d.words; bytes = d.bytes; reported = d.reported; defines = d.defines }

    by_migrate : (defined : Result Graph GraphFault) (d : Defines order contents blocks migrate defined) → EndsMigrated o left d.graph_file contents blocks r w
    by_migrate defined d = subst (λ z. Ends o left z contents blocks r w) d.words ends

    no_graph : (command : Command) (f : GraphFault) → Defines (refused_as order) contents blocks (over command) (Err f) → (o ≡ Some (fault.Graph f)) ⊎ WantsGraph o
    no_graph command f d =
        ⊎_elim
        (λ (k : EndsBy o left (Some (command, d.graph_file)) contents blocks r w). refused contents blocks d.graph_file d.bytes d.reported left r w command f o d.defines k)
        (λ (k : (command ≡ paced_run) × PastRows left d.graph_file contents blocks r w o). past_refused contents blocks d.graph_file d.bytes d.reported left r w f o d.defines k.1)
        (refused_by o left order contents blocks r w command d.graph_file d.words ends)

    over_graph : (command : Command) (g : Graph) → Defines (refused_as order) contents blocks (over command) (Ok g) → Answer command contents g o
    over_graph command g d =
        ⊎_elim
        (λ (k : EndsBy o left (Some (command, d.graph_file)) contents blocks r w). answer contents blocks d.graph_file d.bytes d.reported left r w command g o d.defines k)
        (λ (k : (command ≡ paced_run) × PastRows left d.graph_file contents blocks r w o). subst (λ c. Answer c contents g o) (sym k.0) (past_answer contents blocks d.graph_file d.bytes d.reported left r w g o d.defines k.1))
        (refused_by o left order contents blocks r w command d.graph_file d.words ends)
