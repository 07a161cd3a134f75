-- Two answers that are due to one order over known files.
use Rattle.std.proofs.Common.{arith, ◌≤◌, ◌≡◌, ◌⊎◌, ◌∙◌, ℕ, ℤ, Bool, true, false, List, [], ◌∷◌, Option, Some, None, Result, Ok, Err, IfSome, refl, sym, subst, inl, inr, ⊎_elim}
use Rattle.pt_types.specs.declared.graph.Graph.{Graph}
use Rattle.pt_types.specs.declared.rows.Row.{Row}
use Rattle.pt_blocks.specs.Blocks.{AreBlocks}
use Rattle.pt_blocks.specs.declared.blocks.Named.{Named}
use Rattle.pt_graph_text.specs.declared.fault.GraphFault.{GraphFault}
use Rattle.pt_types.specs.Limits.{usual_claims, greatest_claims}
use Rattle.pt_words.specs.Claims.{HasFewClaims}
use Rattle.pt_run.proofs.GraphFiles.{lawful_by}
use Rattle.pt_slacks.specs.Rings.{IsRing}
use Rattle.pt_slacks.specs.Text.{IsSlacked}
use Rattle.pt_slacks.proofs.Refusing.{rings_admit_nothing}
use Rattle.pt_semantics.specs.Cycles.{NoFreeCycle}
use Rattle.pt_semantics.specs.Offsets.{IsFeasible}
use Rattle.pt_causality.specs.Ranked.{IsFreeCycle}
use Rattle.pt_offsets.specs.Margins.{IsFirstInfeasible}
use Rattle.pt_offsets.specs.Plans.{IsAdmitted, Parts}
use Rattle.pt_sensors.specs.declared.fault.RowFault.{RowFault}
use Rattle.pt_sensor_files.specs.declared.recorded_fault.LateRows.TheVariants.{Refused, Taken}
use Rattle.pt_io.specs.Calls.{Contents}
use Rattle.pt_sensors.specs.Places.{of_run}
use Rattle.pt_sensor_files.specs.Recorded.{AllPass, AreRows, SensorFails, SensorLate}
use Rattle.pt_air.specs.AirOf.{air_of}
use Rattle.pt_words.specs.declared.orders.ClockChoice.{ClockChoice}
use Rattle.pt_words.specs.declared.orders.ClockChoice.TheVariants.{Paced}
use Rattle.pt_run.specs.declared.fault.Fault.{Fault}
use Rattle.pt_run.specs.declared.fault.Fault.TheVariants as fault
use Rattle.pt_words.specs.declared.orders.Command.{Command}
use Rattle.pt_words.specs.declared.orders.Command.TheVariants.{Run, Check, Meaning, Slacks}
use Rattle.pt_run.specs.Agreeing.{ReportsAll}
use Rattle.pt_run.specs.Auditing.{Accepts, IsUnlawful, lawful_line}
use Rattle.pt_run.proofs.CauseFields.{AsksFeasible, OfRows}
use Rattle.pt_run.specs.Due.{AfterAdmission, AfterCycles, AfterFile, AfterOffsets, AfterRows, Answer, HasRunBy, IsAudited, IsDue, IsDueFor, IsDueTo, IsJudgedBy, IsMeantBy, IsReplayed, IsReplayedBy, IsSlackedBy, OnlyPuts, UnlessMemory}
use Rattle.pt_run.specs.Exact.{GraphKnown, IsAlike, IsCutShort, IsDecided, IsExact, IsKnown, RowsKnown}
use Rattle.pt_run.specs.Making.{IsMadeRun}
use Rattle.pt_run.specs.Migrating.{IsMigrated}
use Rattle.pt_run.specs.Replaying.{has_replayed}
use Rattle.pt_run.specs.RunsAgreeing.{ReportsSensors}
use Rattle.pt_words.specs.Grammar.{GraphFile, Order, over, make, migrate, audit, replay}
use Rattle.pt_run.specs.Written.{FitOnAll, IsChecked, IsTables, has_run}
use Rattle.pt_run.proofs.ByCause.{CanAudit, ComesByCause, Defines, ReadsRows, WantsAir, WantsGraph, WantsLog, WantsRows, refused_as}
use Rattle.pt_run.proofs.CallsAgreeing.{of_bytes}
use Rattle.pt_run.proofs.Complete.{ok_err, same_ok, too_late}
use Rattle.pt_run.proofs.OneCause.{fails_rows, meant_long}
use Rattle.pt_run.proofs.Stages.{by_admission, by_cycles, by_file, by_offsets, by_puts, by_rows, not_true, with_fault}
use Rattle.pt_run.specs.GraphFiles.{graph_by}
use Rattle.pt_sensor_files.specs.Bytes.{OfBytes}

-- a call that was cut short
module _ (o : Option Fault) where
  short : (f : Fault) → o ≡ Some f → IsCutShort (Some f) → IsCutShort o
  short f is cut = subst IsCutShort (sym is) cut

  short_graph : WantsGraph o → IsCutShort o
  short_graph wants = ⊎_elim (λ (is : o ≡ Some fault.Memory). short fault.Memory is tt) (λ (is : o ≡ Some (fault.Read None)). short (fault.Read None) is tt) wants

  short_rows : WantsRows o → IsCutShort o
  short_rows wants = ⊎_elim (λ (h : WantsGraph o). short_graph h) (λ (h : (actor : ℕ) × (o ≡ Some (fault.Read (Some actor)))). short (fault.Read (Some h.0)) h.1 tt) wants

  short_log : WantsLog o → IsCutShort o
  short_log wants = ⊎_elim (λ (h : WantsRows o). short_rows h) (λ (is : o ≡ Some fault.ReadLog). short fault.ReadLog is tt) wants

  short_air : WantsAir o → IsCutShort o
  short_air wants = ⊎_elim (λ (h : WantsRows o). short_rows h) (λ (is : o ≡ Some fault.ReadAir). short fault.ReadAir is tt) wants

-- an order over the graph file with this name, which refuses its graph as this command does; `a` is the answer of the call
module _ (order : Order) (c : Command) (graph_file : GraphFile) (alike : refused_as (Some order) ≡ Some (over c graph_file)) (contents : Contents) (blocks : List Named) (a : Answer) (x : ComesByCause a.fault (Some order) contents blocks) where
  -- if this answer is due, and decided by known files, the call ends so
  abbrev Comes : Option Fault → Type 0
  Comes y = IsDecided y order contents blocks → IsCutShort a.fault ⊎ IsAlike y a.fault

  abbrev IsFile : Graph → Type 0
  IsFile g = OfBytes (contents graph_file.name) (λ bytes. graph_by blocks graph_file bytes ≡ Ok g)

  defines : (d : Result Graph GraphFault) → IsKnown contents graph_file.name → OfBytes (contents graph_file.name) (λ bytes. graph_by blocks graph_file bytes ≡ d) → Defines (refused_as (Some order)) contents blocks (over c) d
  defines d reported file = record { graph_file = graph_file; words = alike; bytes = reported.0; reported = reported.1; defines = of_bytes (contents graph_file.name) reported.0 (λ bytes. graph_by blocks graph_file bytes ≡ d) reported.1 file }

  module _ (graph_known : GraphKnown order contents → IsKnown contents graph_file.name) (rows_known : RowsKnown order contents blocks → ReportsAll contents blocks graph_file) where
    bad : (f : GraphFault) → OfBytes (contents graph_file.name) (λ bytes. graph_by blocks graph_file bytes ≡ Err f) → Comes (Some (fault.Graph f))
    bad f file d = ⊎_elim (λ (is : a.fault ≡ Some (fault.Graph f)). inr is) (λ (wants : WantsGraph a.fault). inl (short_graph a.fault wants)) (x.graph c f (defines (Err f) (graph_known d) file))

    cyclic : (g : Graph) → IsFile g → (actors : List ℕ) → IsFreeCycle g actors → Comes (Some (fault.Cycle actors))
    cyclic g file actors is d =
        ⊎_elim (λ (h : (ring : List ℕ) × IsFreeCycle g ring × (a.fault ≡ Some (fault.Cycle ring))). inr (h.0, h.2)) (λ (wants : WantsGraph a.fault). inl (short_graph a.fault wants))
        (x.cycle c g (defines (Ok g) (graph_known d) file) (λ free. free is.first is.edge is.path is.cycle is.free))

    slow : (g : Graph) → IsFile g → AsksFeasible c → NoFreeCycle g → (send : ℕ) (offset : ℤ) (slack : ℕ) → IsFirstInfeasible g send offset slack → Comes (Some (fault.Infeasible send offset slack))
    slow g file judges free send offset slack is d =
        ⊎_elim (λ (h : a.fault ≡ Some (fault.Infeasible send offset slack)). inr h) (λ (wants : WantsGraph a.fault). inl (short_graph a.fault wants))
        (x.infeasible c g send offset slack judges (defines (Ok g) (graph_known d) file) free is)

    reads : (g : Graph) → IsFile g → NoFreeCycle g → (AsksFeasible c → IsFeasible g) → ReportsAll contents blocks graph_file → ReadsRows (Some order) contents blocks c g
    reads g file free feasible all = record {
      graph = defines (Ok g) (all.bytes, all.reported) file;
      no_free_cycle = free;
      feasible = feasible;
      files = all.files g (of_bytes (contents graph_file.name) all.bytes (λ bytes. graph_by blocks graph_file bytes ≡ Ok g) all.reported file);
    }

    fails : (g : Graph) → IsFile g → NoFreeCycle g → (AsksFeasible c → IsFeasible g) → (actor : ℕ) (f : RowFault) → OfRows c (λ late. SensorFails late contents g actor f) → Comes (Some (fault.Sensor actor f))
    fails g file free feasible actor f is d =
        ⊎_elim (λ (h : a.fault ≡ Some (fault.Sensor actor f)). inr h) (λ (wants : WantsRows a.fault). inl (short_rows a.fault wants)) (x.sensor c g actor f (reads g file free feasible (rows_known d)) is)

-- an order that is refused as a run
module _ (order : Order) (workers : ℕ) (clock : ClockChoice) (log : Bool) (graph_file : GraphFile) (alike : refused_as (Some order) ≡ Some (over (Run workers clock log) graph_file)) (contents : Contents) (blocks : List Named) (a : Answer) (x : ComesByCause a.fault (Some order) contents blocks)
    (graph_known : GraphKnown order contents → IsKnown contents graph_file.name) (rows_known : RowsKnown order contents blocks → ReportsAll contents blocks graph_file) where
  abbrev run : Command
  run = Run workers clock log

  tardy : (g : Graph) → OfBytes (contents graph_file.name) (λ bytes. graph_by blocks graph_file bytes ≡ Ok g) → NoFreeCycle g → IsFeasible g → (actor row seen limit : ℕ) → SensorLate contents g actor row seen limit → Comes order run graph_file alike contents blocks a x (Some (fault.LateRow actor row seen limit))
  tardy g file free feasible actor row seen limit is d =
      ⊎_elim (λ (h : a.fault ≡ Some (fault.LateRow actor row seen limit)). inr h) (λ (wants : WantsRows a.fault). inl (short_rows a.fault wants))
      (x.late_row workers clock log g actor row seen limit (reads order run graph_file alike contents blocks a x graph_known rows_known g file free (λ e. feasible) (rows_known d)) is)

  admitted : (b : Answer) (g : Graph) → OfBytes (contents graph_file.name) (λ bytes. graph_by blocks graph_file bytes ≡ Ok g) → (Then : Parts → (ℕ → List Row) → Type 0) → AfterAdmission contents g (graph_file.name ∷ []) b Then →
      ((plan : Parts) (rows : ℕ → List Row) → plan.graph ≡ g → IsAdmitted plan → AreRows contents plan.graph rows → AllPass Refused plan.graph rows → Then plan (of_run plan.graph rows) → Comes order run graph_file alike contents blocks a x b.fault) → Comes order run graph_file alike contents blocks a x b.fault
  admitted b g file Then h on =
      by_admission contents b (Comes order run graph_file alike contents blocks a x) g (graph_file.name ∷ []) Then h
      (λ actors out is. cyclic order run graph_file alike contents blocks a x graph_known rows_known g file actors is)
      (λ free send offset slack out is. slow order run graph_file alike contents blocks a x graph_known rows_known g file tt free send offset slack is)
      (λ free feasible actor out is d. absurd d)
      (λ free feasible actor f out is. fails order run graph_file alike contents blocks a x graph_known rows_known g file free (λ e. feasible) actor f is)
      (λ free feasible actor row seen limit out is. tardy g file free feasible actor row seen limit is) on

  on_file : (b : Answer) (Then : Graph → Type 0) → AfterFile contents blocks graph_file b Then → ((g : Graph) → OfBytes (contents graph_file.name) (λ bytes. graph_by blocks graph_file bytes ≡ Ok g) → Then g → Comes order run graph_file alike contents blocks a x b.fault) → Comes order run graph_file alike contents blocks a x b.fault
  on_file b Then h on = by_file contents b (Comes order run graph_file alike contents blocks a x) blocks graph_file Then h (λ out is d. absurd d) (λ f out is. bad order run graph_file alike contents blocks a x graph_known rows_known f is) on

-- no files decide how a run ends that has begun
undecided_run : (o : Option Fault) (workers : ℕ) (clock : ClockChoice) (log : Bool) (graph_file : GraphFile) (contents : Contents) (blocks : List Named) → has_run o ≡ true → IsDecided o (over (Run workers clock log) graph_file) contents blocks → ⊥
undecided_run None workers clock log graph_file contents blocks is d = d
undecided_run (Some fault.Write) workers clock log graph_file contents blocks is d = d
undecided_run (Some (fault.Long (Some platform))) workers clock log graph_file contents blocks is d = d
undecided_run (Some (fault.LateMessage platform actor tag reading limit)) workers clock log graph_file contents blocks is d = d
undecided_run (Some f) workers clock log graph_file contents blocks is d = not_true is

undecided_replay : (o : Option Fault) (graph_file : GraphFile) (air : List ℕ) (workers : ℕ) (log : Bool) (contents : Contents) (blocks : List Named) → has_replayed o ≡ true → IsDecided o (replay graph_file air workers log) contents blocks → ⊥
undecided_replay None graph_file air workers log contents blocks is d = d
undecided_replay (Some fault.Write) graph_file air workers log contents blocks is d = d
undecided_replay (Some (fault.Long (Some platform))) graph_file air workers log contents blocks is d = d
undecided_replay (Some (fault.LateAir platform actor tag reading limit row)) graph_file air workers log contents blocks is d = d
undecided_replay (Some f) graph_file air workers log contents blocks is d = not_true is

-- the usual number of claims is one that a command may state
few_usual : (graph_file : GraphFile) → graph_file.claims ≡ usual_claims → graph_file.claims ≤ greatest_claims
few_usual graph_file usual = omega (arith, usual)

module _ (contents : Contents) (blocks : List Named) (a b : Answer) where
  -- a run
  runs : (workers : ℕ) (clock : ClockChoice) (log : Bool) (graph_file : GraphFile) → ComesByCause a.fault (Some (over (Run workers clock log) graph_file)) contents blocks → IsDueTo (over (Run workers clock log) graph_file) contents blocks b →
      IsDecided b.fault (over (Run workers clock log) graph_file) contents blocks → IsCutShort a.fault ⊎ IsAlike b.fault a.fault
  runs workers clock log graph_file x due =
      on_file (over (Run workers clock log) graph_file) workers clock log graph_file refl contents blocks a x (λ k. k) (λ k. k) b (λ g. IsDueFor (Run workers clock log) contents g (graph_file.name ∷ []) b) due
      (λ g file rest. admitted (over (Run workers clock log) graph_file) workers clock log graph_file refl contents blocks a x (λ k. k) (λ k. k) b g file (HasRunBy workers clock log b) rest
      (λ plan rows same is are pass ran d. absurd (undecided_run b.fault workers clock log graph_file contents blocks ran.ran d)))

  -- an audit
  audits : (graph_file : GraphFile) (log : List ℕ) → ComesByCause a.fault (Some (audit graph_file log)) contents blocks → IsDueTo (audit graph_file log) contents blocks b → IsDecided b.fault (audit graph_file log) contents blocks → IsCutShort a.fault ⊎ IsAlike b.fault a.fault
  audits graph_file log x due =
      on_file (audit graph_file log) 1 Paced false graph_file refl contents blocks a x (λ k. k) (λ k. k) b (λ g. IsAudited log contents g (graph_file.name ∷ []) b) due
      (λ g file rest. admitted (audit graph_file log) 1 Paced false graph_file refl contents blocks a x (λ k. k) (λ k. k) b g file (IsJudgedBy log contents g (graph_file.name ∷ []) b) rest
      (λ plan rows same is are pass k. judged plan rows (subst (λ z. OfBytes (contents graph_file.name) (λ bytes. graph_by blocks graph_file bytes ≡ Ok z)) (sym same) file) is are pass g k))
    where
      judged : (plan : Parts) (rows : ℕ → List Row) → OfBytes (contents graph_file.name) (λ bytes. graph_by blocks graph_file bytes ≡ Ok plan.graph) → IsAdmitted plan → AreRows contents plan.graph rows → AllPass Refused plan.graph rows → (g : Graph) → IsJudgedBy log contents g (graph_file.name ∷ []) b plan (of_run plan.graph rows) →
          IsDecided b.fault (audit graph_file log) contents blocks → IsCutShort a.fault ⊎ IsAlike b.fault a.fault
      judged plan rows file is are pass g k = by_last k
        where
          can : (all : ReportsAll contents blocks graph_file) (last : IsKnown contents log) → CanAudit (Some (audit graph_file log)) contents blocks plan (of_run plan.graph rows) last.0
          can all last = record {
            graph_file = graph_file;
            log = log;
            words = refl;
            admitted = is;
            begins = record {
              bytes = all.bytes;
              reported = all.reported;
              graph = of_bytes (contents graph_file.name) all.bytes (λ bytes. graph_by blocks graph_file bytes ≡ Ok plan.graph) all.reported file;
              no_free_cycle = is.no_free_cycle;
              feasible = is.feasible;
              files = all.files plan.graph (of_bytes (contents graph_file.name) all.bytes (λ bytes. graph_by blocks graph_file bytes ≡ Ok plan.graph) all.reported file);
              rows = rows;
              sensors = are;
              in_time = pass;
            };
            over = refl;
            reported = last.1;
          }

          by_last : IsJudgedBy log contents g (graph_file.name ∷ []) b plan (of_run plan.graph rows) → IsDecided b.fault (audit graph_file log) contents blocks → IsCutShort a.fault ⊎ IsAlike b.fault a.fault
          by_last (inl h) d = absurd (subst (λ z. IsDecided z (audit graph_file log) contents blocks) h.0.0 d)
          by_last (inr (inl (v, out, unlawful))) d =
              let known = subst (λ z. IsDecided z (audit graph_file log) contents blocks) out.0 d in
              subst (λ z. IsCutShort a.fault ⊎ IsAlike z a.fault) (sym out.0)
              (⊎_elim (λ (h : a.fault ≡ Some (fault.Unlawful v)). inr h) (λ (wants : WantsLog a.fault). inl (short_log a.fault wants))
              (x.verdict plan (of_run plan.graph rows) known.1.0 v (can known.0 known.1) (of_bytes (contents log) known.1.0 (λ bytes. IsUnlawful plan (of_run plan.graph rows) bytes v) known.1.1 unlawful).refuses))
          by_last (inr (inr (accepts, puts))) d =
              by_puts contents b (λ z. IsDecided z (audit graph_file log) contents blocks → IsCutShort a.fault ⊎ IsAlike z a.fault) (λ text. text ≡ lawful_line) puts.1
              (λ text eq all known.
              ⊎_elim (λ (h : (a.fault ≡ None) ⊎ (a.fault ≡ Some fault.Write)). inr h) (λ (wants : WantsLog a.fault). inl (short_log a.fault wants))
              (x.lawful plan (of_run plan.graph rows) known.1.0 (can known.0 known.1) (of_bytes (contents log) known.1.0 (Accepts plan (of_run plan.graph rows)) known.1.1 accepts).lawful))
              (λ rose text eq part known. absurd known) d

  -- a replay
  replays : (graph_file : GraphFile) (air : List ℕ) (workers : ℕ) (log : Bool) → ComesByCause a.fault (Some (replay graph_file air workers log)) contents blocks → IsDueTo (replay graph_file air workers log) contents blocks b → IsDecided b.fault (replay graph_file air workers log) contents blocks → IsCutShort a.fault ⊎ IsAlike b.fault a.fault
  replays graph_file air workers log x due =
      on_file (replay graph_file air workers log) 1 Paced false graph_file refl contents blocks a x (λ k. k) (λ k. k) b (λ g. IsReplayed air log contents g (graph_file.name ∷ []) b) due
      (λ g file rest. admitted (replay graph_file air workers log) 1 Paced false graph_file refl contents blocks a x (λ k. k) (λ k. k) b g file (IsReplayedBy air log contents g (graph_file.name ∷ []) b) rest
      (λ plan rows same is are pass k. by_last g file rows (subst (λ z. AreRows contents z rows × AllPass Refused z rows) same (are, pass)) (subst NoFreeCycle same is.no_free_cycle) (subst IsFeasible same is.feasible) plan (of_run plan.graph rows) k))
    where
      by_last : (g : Graph) → OfBytes (contents graph_file.name) (λ bytes. graph_by blocks graph_file bytes ≡ Ok g) → (rows : ℕ → List Row) → AreRows contents g rows × AllPass Refused g rows → NoFreeCycle g → IsFeasible g → (plan : Parts) (others : ℕ → List Row) → IsReplayedBy air log contents g (graph_file.name ∷ []) b plan others →
          IsDecided b.fault (replay graph_file air workers log) contents blocks → IsCutShort a.fault ⊎ IsAlike b.fault a.fault
      by_last g file rows are free feasible plan others (inl h) d = absurd (subst (λ z. IsDecided z (replay graph_file air workers log) contents blocks) h.0.0 d)
      by_last g file rows are free feasible plan others (inr (inl (f, out, wrong))) d =
          let known = subst (λ z. IsDecided z (replay graph_file air workers log) contents blocks) out.0 d in
          let defined = of_bytes (contents graph_file.name) known.0.bytes (λ bytes. graph_by blocks graph_file bytes ≡ Ok g) known.0.reported file in
          subst (λ z. IsCutShort a.fault ⊎ IsAlike z a.fault) (sym out.0)
          (⊎_elim (λ (h : a.fault ≡ Some (fault.Air f)). inr h) (λ (wants : WantsAir a.fault). inl (short_air a.fault wants))
          (x.air g known.1.0 f (record {
            graph_file = graph_file;
            air = air;
            workers = workers;
            log = log;
            words = refl;
            begins = record { bytes = known.0.bytes; reported = known.0.reported; graph = defined; no_free_cycle = free; feasible = feasible; files = known.0.files g defined; rows = rows; sensors = are.0; in_time = are.1 };
            reported = known.1.1;
          }) (of_bytes (contents air) known.1.0 (λ bytes. air_of g bytes ≡ Err f) known.1.1 wrong)))
      by_last g file rows are free feasible plan others (inr (inr ran)) d = absurd (undecided_replay b.fault graph_file air workers log contents blocks ran.ran d)

  -- the graph that the other one is due to
  same_graph : (graph_file : GraphFile) → IsKnown contents graph_file.name → (g h : Graph) → OfBytes (contents graph_file.name) (λ bytes. graph_by blocks graph_file bytes ≡ Ok g) → OfBytes (contents graph_file.name) (λ bytes. graph_by blocks graph_file bytes ≡ Ok h) → h ≡ g
  same_graph graph_file (bytes, reported) g h file other =
      same_ok {E = GraphFault} h g (sym (of_bytes (contents graph_file.name) bytes (λ bytes. graph_by blocks graph_file bytes ≡ Ok h) reported other) ∙ of_bytes (contents graph_file.name) bytes (λ bytes. graph_by blocks graph_file bytes ≡ Ok g) reported file)

  no_fault : (graph_file : GraphFile) → IsKnown contents graph_file.name → (g : Graph) (f : GraphFault) → OfBytes (contents graph_file.name) (λ bytes. graph_by blocks graph_file bytes ≡ Ok g) → OfBytes (contents graph_file.name) (λ bytes. graph_by blocks graph_file bytes ≡ Err f) → ⊥
  no_fault graph_file (bytes, reported) g f file other = ok_err g f (sym (of_bytes (contents graph_file.name) bytes (λ bytes. graph_by blocks graph_file bytes ≡ Ok g) reported file) ∙ of_bytes (contents graph_file.name) bytes (λ bytes. graph_by blocks graph_file bytes ≡ Err f) reported other)

  -- all is written, or a write fails
  abbrev Writes : Option Fault → Type 0
  Writes o = IsCutShort o ⊎ IsAlike None o

  written : (Text : List ℕ → Type 0) → OnlyPuts a Text → Writes a.fault
  written Text h = by_puts contents a Writes Text h.1 (λ text is all. inr (inl refl)) (λ rose text is part. inr (inr refl))

  in_memory : (order : Order) → UnlessMemory a (IsDueTo order contents blocks) → (IsDueTo order contents blocks a → Writes a.fault) → Writes a.fault
  in_memory order (inl out) on = with_fault contents a Writes fault.Memory out (inl tt)
  in_memory order (inr h) on = on h

  -- a command whose text is due to this graph writes it
  writes : (graph_file : GraphFile) (known : IsKnown contents graph_file.name) (g : Graph) → OfBytes (contents graph_file.name) (λ bytes. graph_by blocks graph_file bytes ≡ Ok g) → (Then : Graph → Type 0) → AfterFile contents blocks graph_file a Then → (Then g → Writes a.fault) → Writes a.fault
  writes graph_file known g file Then h on =
      by_file contents a Writes blocks graph_file Then h (λ out is. inl tt) (λ f out is. absurd (no_fault graph_file known g f file is)) (λ other there rest. on (subst Then (same_graph graph_file known g other file there) rest))

  uncycled : (g : Graph) → NoFreeCycle g → (Then : Type 0) → AfterCycles g a Then → (Then → Writes a.fault) → Writes a.fault
  uncycled g free Then h on = by_cycles contents a Writes g Then h (λ actors out is. absurd (free is.first is.edge is.path is.cycle is.free)) (λ free rest. on rest)

  module _ (graph_file : GraphFile) (g : Graph) (file : OfBytes (contents graph_file.name) (λ bytes. graph_by blocks graph_file bytes ≡ Ok g)) (free : NoFreeCycle g) where
    -- `check`
    checked : UnlessMemory a (IsDueTo (over Check graph_file) contents blocks) → IsFeasible g → IsKnown contents graph_file.name → Writes a.fault
    checked due feasible known =
        in_memory (over Check graph_file) due (λ h. writes graph_file known g file (λ z. IsDueFor Check contents z (graph_file.name ∷ []) a) h (λ k. uncycled g free (AfterOffsets g a (OnlyPuts a (IsChecked g))) k
        (λ rest. by_offsets contents a Writes g (OnlyPuts a (IsChecked g)) rest (λ send offset slack out is. absurd (too_late g send slack offset feasible is)) (λ judged puts. written (IsChecked g) puts))))

    -- `meaning`
    meant : UnlessMemory a (IsDueTo (over Meaning graph_file) contents blocks) → (rows : ℕ → List Row) → AreRows contents g rows → (text : List ℕ) → IsTables g rows (FitOnAll g) text → ReportsAll contents blocks graph_file → Writes a.fault
    meant due rows are text tables all =
        in_memory (over Meaning graph_file) due (λ h. writes graph_file (all.bytes, all.reported) g file (λ z. IsDueFor Meaning contents z (graph_file.name ∷ []) a) h (λ k. uncycled g free (AfterRows Taken contents g (graph_file.name ∷ []) a (λ rows. IsMeantBy g rows a)) k
        (λ files. by_rows contents a Writes Taken g (graph_file.name ∷ []) (λ rows. IsMeantBy g rows a) files (λ actor out is. inl tt) (λ actor f out is. absurd (fails_rows contents g reported Taken actor f (rows actor) is (are actor)))
        (λ actor row seen limit out is late. absurd (taken is)) (λ others there pass k. last others there k))))
      where
        reported : ReportsSensors contents g
        reported = all.files g (of_bytes (contents graph_file.name) all.bytes (λ bytes. graph_by blocks graph_file bytes ≡ Ok g) all.reported file)

        taken : Taken ≡ Refused → ⊥
        taken e = cc

        last : (others : ℕ → List Row) → AreRows contents g others → IsMeantBy g others a → Writes a.fault
        last others there (inl k) = absurd (meant_long contents g text others reported there (record { rows = rows; sensors = are; tables = tables }) k.1)
        last others there (inr k) = written (IsTables g others (FitOnAll g)) k

    -- `slacks`
    slacked : UnlessMemory a (IsDueTo (over Slacks graph_file) contents blocks) → (text : List ℕ) → IsSlacked g text → IsKnown contents graph_file.name → AreBlocks blocks → graph_file.claims ≡ usual_claims → Writes a.fault
    slacked due text is known blocked usual =
        in_memory (over Slacks graph_file) due (λ h. writes graph_file known g file (λ z. IsDueFor Slacks contents z (graph_file.name ∷ []) a) h (λ k. uncycled g free (IsSlackedBy g a) k last))
      where
        last : IsSlackedBy g a → Writes a.fault
        last (inl k) = absurd (rings_admit_nothing g k.0 k.1 is.slack (lawful_by blocks graph_file known.0 g blocked (few_usual graph_file usual) (of_bytes (contents graph_file.name) known.0 (λ bytes. graph_by blocks graph_file bytes ≡ Ok g) known.1 file)) k.3 is.least.admits)
        last (inr k) = written (IsSlacked g) k

  -- a command that puts a text, in its order of stages: `Comes` of each of its refusals, and of its text
  texts : (c : Command) (graph_file : GraphFile) → HasFewClaims (over c graph_file) → ComesByCause a.fault (Some (over c graph_file)) contents blocks → UnlessMemory a (IsDueTo (over c graph_file) contents blocks) → IsDueTo (over c graph_file) contents blocks b → IsDecided b.fault (over c graph_file) contents blocks → IsCutShort a.fault ⊎ IsAlike b.fault a.fault
  texts (Run workers clock log) graph_file few x mine due = runs workers clock log graph_file x due
  texts Check graph_file few x mine due =
      by_file contents b (Comes (over Check graph_file) Check graph_file refl contents blocks a x) blocks graph_file (λ g. IsDueFor Check contents g (graph_file.name ∷ []) b) due (λ out is d. absurd d) (λ f out is. bad (over Check graph_file) Check graph_file refl contents blocks a x (λ k. k) (λ k. k) f is)
      (λ g file rest.
      by_cycles contents b (Comes (over Check graph_file) Check graph_file refl contents blocks a x) g (AfterOffsets g b (OnlyPuts b (IsChecked g))) rest (λ actors out is. cyclic (over Check graph_file) Check graph_file refl contents blocks a x (λ k. k) (λ k. k) g file actors is)
      (λ free rest.
      by_offsets contents b (Comes (over Check graph_file) Check graph_file refl contents blocks a x) g (OnlyPuts b (IsChecked g)) rest (λ send offset slack out is. slow (over Check graph_file) Check graph_file refl contents blocks a x (λ k. k) (λ k. k) g file tt free send offset slack is)
      (λ feasible puts. by_puts contents b (Comes (over Check graph_file) Check graph_file refl contents blocks a x) (IsChecked g) puts.1 (λ text is all d. checked graph_file g file free mine feasible d) (λ rose text is part d. absurd d))))
  texts Meaning graph_file few x mine due =
      by_file contents b (Comes (over Meaning graph_file) Meaning graph_file refl contents blocks a x) blocks graph_file (λ g. IsDueFor Meaning contents g (graph_file.name ∷ []) b) due (λ out is d. absurd d) (λ f out is. bad (over Meaning graph_file) Meaning graph_file refl contents blocks a x (λ k. k) (λ k. k) f is)
      (λ g file rest.
      by_cycles contents b (Comes (over Meaning graph_file) Meaning graph_file refl contents blocks a x) g (AfterRows Taken contents g (graph_file.name ∷ []) b (λ rows. IsMeantBy g rows b)) rest (λ actors out is. cyclic (over Meaning graph_file) Meaning graph_file refl contents blocks a x (λ k. k) (λ k. k) g file actors is)
      (λ free files.
      by_rows contents b (Comes (over Meaning graph_file) Meaning graph_file refl contents blocks a x) Taken g (graph_file.name ∷ []) (λ rows. IsMeantBy g rows b) files (λ actor out is d. absurd d)
      (λ actor f out is. fails (over Meaning graph_file) Meaning graph_file refl contents blocks a x (λ k. k) (λ k. k) g file free (λ e. absurd e) actor f is) (λ actor row seen limit out is late. absurd (taken is)) (λ rows are pass k. last g file free rows are k)))
    where
      taken : Taken ≡ Refused → ⊥
      taken e = cc

      last : (g : Graph) → OfBytes (contents graph_file.name) (λ bytes. graph_by blocks graph_file bytes ≡ Ok g) → NoFreeCycle g → (rows : ℕ → List Row) → AreRows contents g rows → IsMeantBy g rows b → IsDecided b.fault (over Meaning graph_file) contents blocks → IsCutShort a.fault ⊎ IsAlike b.fault a.fault
      last g file free rows are (inl k) d =
          subst (λ z. IsCutShort a.fault ⊎ IsAlike z a.fault) (sym k.0.0)
          (⊎_elim (λ (h : a.fault ≡ Some (fault.Long None)). inr h) (λ (wants : WantsRows a.fault). inl (short_rows a.fault wants))
          (x.long_meaning g rows (reads (over Meaning graph_file) Meaning graph_file refl contents blocks a x (λ k. k) (λ k. k) g file free (λ e. absurd e) (subst (λ z. IsDecided z (over Meaning graph_file) contents blocks) k.0.0 d)) are k.1))
      last g file free rows are (inr k) d = by_puts contents b (Comes (over Meaning graph_file) Meaning graph_file refl contents blocks a x) (IsTables g rows (FitOnAll g)) k.1 (λ text is all d. meant graph_file g file free mine rows are text is d) (λ rose text is part d. absurd d) d
  texts Slacks graph_file few x mine due =
      by_file contents b (Comes (over Slacks graph_file) Slacks graph_file refl contents blocks a x) blocks graph_file (λ g. IsDueFor Slacks contents g (graph_file.name ∷ []) b) due (λ out is d. absurd d) (λ f out is. bad (over Slacks graph_file) Slacks graph_file refl contents blocks a x (λ k. k) (λ k. k) f is)
      (λ g file rest. by_cycles contents b (Comes (over Slacks graph_file) Slacks graph_file refl contents blocks a x) g (IsSlackedBy g b) rest (λ actors out is. cyclic (over Slacks graph_file) Slacks graph_file refl contents blocks a x (λ k. k) (λ k. k) g file actors is) (λ free k. last g file free k))
    where
      last : (g : Graph) → OfBytes (contents graph_file.name) (λ bytes. graph_by blocks graph_file bytes ≡ Ok g) → NoFreeCycle g → IsSlackedBy g b → IsDecided b.fault (over Slacks graph_file) contents blocks → IsCutShort a.fault ⊎ IsAlike b.fault a.fault
      last g file free (inl k) d =
          let known = subst (λ z. IsDecided z (over Slacks graph_file) contents blocks) k.2.0 d in
          let defined = of_bytes (contents graph_file.name) known.0.0 (λ bytes. graph_by blocks graph_file bytes ≡ Ok g) known.0.1 file in
          subst (λ z. IsCutShort a.fault ⊎ IsAlike z a.fault) (sym k.2.0)
          (⊎_elim (λ (h : (sends : List ℕ) × (gain : ℕ) × IsRing g sends gain × (a.fault ≡ Some (fault.Ring sends gain))). inr (h.0, h.1, h.3)) (λ (wants : WantsGraph a.fault). inl (short_graph a.fault wants))
          (x.ring g (record { graph_file = graph_file; words = refl; bytes = known.0.0; reported = known.0.1; defines = defined }) free (λ slack admits. rings_admit_nothing g k.0 k.1 slack (lawful_by blocks graph_file known.0.0 g known.1 (few_usual graph_file few) defined) k.3 admits)))
      last g file free (inr k) d = by_puts contents b (Comes (over Slacks graph_file) Slacks graph_file refl contents blocks a x) (IsSlacked g) k.1 (λ text is all d. slacked graph_file g file free mine text is d.0 d.1 few) (λ rose text is part d. absurd d) d

  -- `migrate`
  migrates : (graph_file : GraphFile) → ComesByCause a.fault (Some (migrate graph_file)) contents blocks → IsDueTo (migrate graph_file) contents blocks b → IsDecided b.fault (migrate graph_file) contents blocks → IsCutShort a.fault ⊎ IsAlike b.fault a.fault
  migrates graph_file x due =
      by_file contents b (λ y. IsDecided y (migrate graph_file) contents blocks → IsCutShort a.fault ⊎ IsAlike y a.fault) blocks graph_file (λ g. OnlyPuts b (IsMigrated g blocks)) due (λ out is d. absurd d)
      (λ f out is d.
      ⊎_elim (λ (h : a.fault ≡ Some (fault.Graph f)). inr h) (λ (wants : WantsGraph a.fault). inl (short_graph a.fault wants))
      (x.unmigrated f (record { graph_file = graph_file; words = refl; bytes = d.0; reported = d.1; defines = of_bytes (contents graph_file.name) d.0 (λ bytes. graph_by blocks graph_file bytes ≡ Err f) d.1 is })))
      (λ g file puts. by_puts contents b (λ y. IsDecided y (migrate graph_file) contents blocks → IsCutShort a.fault ⊎ IsAlike y a.fault) (IsMigrated g blocks) puts.1
      (λ text is all d.
      ⊎_elim (λ (h : (a.fault ≡ None) ⊎ (a.fault ≡ Some fault.Write)). inr h) (λ (wants : WantsGraph a.fault). inl (short_graph a.fault wants))
      (x.migrated g (record { graph_file = graph_file; words = refl; bytes = d.0; reported = d.1; defines = of_bytes (contents graph_file.name) d.0 (λ bytes. graph_by blocks graph_file bytes ≡ Ok g) d.1 file }))) (λ rose text is part d. absurd d))

  by_order : (order : Order) → HasFewClaims order → ComesByCause a.fault (Some order) contents blocks → UnlessMemory a (IsDueTo order contents blocks) → IsDueTo order contents blocks b → IsDecided b.fault order contents blocks → IsCutShort a.fault ⊎ IsAlike b.fault a.fault
  by_order (over c graph_file) few x mine due = texts c graph_file few x mine due
  by_order (make number workers) few x mine due = by_puts contents b (λ y. IsDecided y (make number workers) contents blocks → IsCutShort a.fault ⊎ IsAlike y a.fault) (IsMadeRun number b.left.platforms) due.1 (λ text is all d. absurd d) (λ rose text is part d. absurd d)
  by_order (migrate graph_file) few x mine due = migrates graph_file x due
  by_order (audit graph_file log) few x mine due = audits graph_file log x due
  by_order (replay graph_file air workers log) few x mine due = replays graph_file air workers log x due

  one_due : (order : Order) → HasFewClaims order → ComesByCause a.fault (Some order) contents blocks → IsDue (Some order) contents blocks a → IsDue (Some order) contents blocks b → IsDecided b.fault order contents blocks → IsCutShort a.fault ⊎ IsAlike b.fault a.fault
  one_due order few x mine (inl out) d = absurd (subst (λ z. IsDecided z order contents blocks) out.0 d)
  one_due order few x mine (inr h) d = by_order order few x mine h d

pub exactly : (order : Option Order) (contents : Contents) (blocks : List Named) (a : Answer) → IfSome order HasFewClaims → ComesByCause a.fault order contents blocks → IsDue order contents blocks a → IsExact a.fault order contents blocks
exactly None contents blocks a few x mine = tt
exactly (Some order) contents blocks a few x mine = λ due is d. one_due contents blocks a due order few x mine is d
