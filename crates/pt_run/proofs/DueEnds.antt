-- How a call ends by its fault, of what is due.
use Rattle.std.proofs.Common.{◌≡◌, ◌++◌, ℕ, ℤ, Bool, true, false, List, [], ◌∷◌, Option, Some, None, Ok, Err, refl, sym, subst, inl, inr}
use Rattle.std.specs.Prelude.{flat_map}
use Rattle.pt_io.specs.Causes.{Appends, AppendsPart, Rose}
use Rattle.pt_types.specs.declared.graph.Graph.{Graph}
use Rattle.pt_types.specs.declared.rows.Row.{Row}
use Rattle.pt_blocks.specs.declared.blocks.Named.{Named}
use Rattle.pt_history.specs.declared.miss.Miss.{Miss}
use Rattle.pt_semantics.specs.Cycles.{NoFreeCycle}
use Rattle.pt_semantics.specs.Offsets.{IsFeasible}
use Rattle.pt_semantics.specs.Tables.{tables_text}
use Rattle.pt_causality.specs.Ranked.{IsFreeCycle, level_of}
use Rattle.pt_offsets.specs.Margins.{IsFirstInfeasible}
use Rattle.pt_offsets.specs.Plans.{IsAdmitted, Parts}
use Rattle.pt_slacks.specs.Text.{IsSlacked}
use Rattle.pt_sensors.specs.declared.fault.RowFault.{RowFault}
use Rattle.pt_sensor_files.specs.declared.recorded_fault.LateRows.TheVariants.{Refused, Taken}
use Rattle.pt_io.specs.Calls.{Contents, SourceCall, SinkCall}
use Rattle.pt_sensors.specs.Places.{of_run}
use Rattle.pt_sensor_files.specs.Recorded.{AllPass, AreRows, SensorFails, SensorLate, SensorUnread}
use Rattle.pt_air.specs.AirOf.{air_of}
use Rattle.pt_monitors.specs.Platforms.{missed_by}
use Rattle.pt_words.specs.declared.orders.ClockChoice.{ClockChoice}
use Rattle.pt_words.specs.declared.orders.ClockChoice.TheVariants.{Paced}
use Rattle.pt_run.specs.declared.fault.Fault.{Fault}
use Rattle.pt_run.specs.declared.fault.Fault.TheVariants as fault
use Rattle.pt_words.specs.declared.orders.Command.{Command}
use Rattle.pt_words.specs.declared.orders.Command.TheVariants.{Run, Check, Meaning, Slacks}
use Rattle.pt_run.specs.Auditing.{Accepts, IsUnlawful, LastFails, OnLog, lawful_line}
use Rattle.pt_run.specs.Due.{AfterAdmission, AfterOffsets, AfterRows, Answer, HasRunBy, IsDue, IsDueFor, IsDueTo, IsJudgedBy, IsMeantBy, IsReplayedBy, IsSlackedBy, OnlyPuts, PutsText, RefusedWith}
use Rattle.pt_run.specs.Leaving.{PutsMeaning, RunWith}
use Rattle.pt_run.specs.Making.{IsMadeRun}
use Rattle.pt_run.specs.Migrating.{IsMigrated}
use Rattle.pt_run.specs.Replaying.{LeavesReplay, OnAir, has_replayed}
use Rattle.pt_rounds.specs.Outcome.{IsOutcome as IsPacedOutcome}
use Rattle.pt_run.specs.Runs.{IsOutcomeBy, IsOutcomeOver, log_if}
use Rattle.pt_words.specs.Grammar.{GraphFile, Order, over, make, migrate, audit, replay}
use Rattle.pt_run.specs.Reporting.{paced_run}
use Rattle.pt_run.specs.Written.{FitOnAll, HasNothing, IsChecked, IsRun, IsTables, Leaves, run_clocks, stop_of}
use Rattle.pt_run.proofs.ByFault.{Ends, EndsAudit, EndsBy, EndsMade, EndsMigrated, EndsReplay, Writes}
use Rattle.pt_run.proofs.Finished.{missed_as_meant}
use Rattle.pt_run.proofs.Stages.{by_admission, by_cycles, by_file, by_offsets, by_puts, by_rows, not_true, with_fault}
use Rattle.pt_run.specs.GraphFiles.{graph_by}
use Rattle.pt_sensor_files.specs.Bytes.{OfBytes}

-- a run over a plan of the graph in the file with this name
module _ (contents : Contents) (blocks : List Named) (graph_file : GraphFile) (workers : ℕ) (clock : ClockChoice) (log : Bool) (left : Leaves) (r : SourceCall) (w : SinkCall) (plan : Parts) (rows : ℕ → List Row) (admitted : IsAdmitted plan) (are : AreRows contents plan.graph rows) (in_time : AllPass Refused plan.graph rows)
    (file : OfBytes (contents graph_file.name) (λ bytes. graph_by blocks graph_file bytes ≡ Ok plan.graph)) where
  abbrev By : Option Fault → Type 0
  By o = HasRunBy workers clock log (record { fault = o; left = left; read = r; wrote = w }) plan (of_run plan.graph rows)

  outcome_by : (o : Option Fault) → By o → IsOutcomeBy (run_clocks workers clock left) plan (of_run plan.graph rows) left.platforms (stop_of o)
  outcome_by o h = record { kept = h.leaves.kept; readings = h.leaves.readings; paced = h.paced }

  outcome_over : (o : Option Fault) → By o → IsOutcomeOver contents (run_clocks workers clock left) plan left.platforms (stop_of o)
  outcome_over o h = record { admitted = admitted; rows = rows; sensors = are; in_time = in_time; fact = outcome_by o h }

  finished : (o : Option Fault) (h : By o) → stop_of o ≡ None → (misses : List Miss) → misses ≡ flat_map missed_by left.platforms → (Put : List ℕ → Type 0) → (p : PutsMeaning plan (of_run plan.graph rows) log left.platforms Put)
      → IsRun contents plan.graph workers clock log (record left { misses = misses }) (tables_text plan.graph p.firings ++ log_if log plan.graph left.platforms)
  finished o h none misses missed Put p = record {
    plan = plan;
    graph = refl;
    finished = record {
      run = record { admitted = admitted; rows = rows; sensors = are; in_time = in_time; fact = subst (IsOutcomeBy (run_clocks workers clock left) plan (of_run plan.graph rows) left.platforms) none (outcome_by o h) };
      fit = p.fit;
      firings = p.firings;
      meaning = p.meaning;
      written = refl;
      held = p.held;
      missed = missed;
      missed_as_meant = λ paced. missed_as_meant plan (of_run plan.graph rows) left.platforms misses p.firings admitted (subst (IsPacedOutcome plan (level_of plan.ranks) (of_run plan.graph rows) left.platforms) none (h.paced paced)) missed p.meaning;
    };
  }

  run_ended : (o : Option Fault) → By o → EndsBy o left (Some (Run workers clock log, graph_file)) contents blocks r w
  run_ended None h =
      let p = h.leaves.written refl in
      (tables_text plan.graph p.firings ++ log_if log plan.graph left.platforms, (plan.graph, file, (admitted.no_free_cycle, finished None h refl left.misses (h.leaves.misses refl) (Appends w.written_before w.written_now) p)), p.text)
  run_ended (Some fault.Write) h =
      let p = h.leaves.part refl in (
        h.failed refl,
        (
          h.leaves.no_misses (λ e. absurd cc),
          flat_map missed_by left.platforms,
          tables_text plan.graph p.firings ++ log_if log plan.graph left.platforms,
          (plan.graph, file, (admitted.no_free_cycle, finished (Some fault.Write) h refl (flat_map missed_by left.platforms) refl (AppendsPart w.written_before w.written_now) p)),
          p.text,
        ),
      )
  run_ended (Some (fault.Long (Some platform))) h =
      ((plan.graph, file, (admitted.no_free_cycle, record { plan = plan; graph = refl; run = outcome_over (Some (fault.Long (Some platform))) h; no_misses = h.leaves.no_misses (λ e. absurd cc) })), h.leaves.unwritten (λ e. absurd cc))
  run_ended (Some (fault.LateMessage platform actor tag reading limit)) h =
      ((plan.graph, file, (admitted.no_free_cycle, record { plan = plan; graph = refl; run = outcome_over (Some (fault.LateMessage platform actor tag reading limit)) h; no_misses = h.leaves.no_misses (λ e. absurd cc) })), h.leaves.unwritten (λ e. absurd cc))
  run_ended (Some f) h = absurd (not_true h.ran)

module _ (contents : Contents) (blocks : List Named) (a : Answer) where
  -- how a command on the graph file with this name ends with a fault or without one
  abbrev Over : GraphFile → Command → Option Fault → Type 0
  Over graph_file c o = EndsBy o a.left (Some (c, graph_file)) contents blocks a.read a.wrote

  -- the file with this name defines the graph
  abbrev IsFile : GraphFile → Graph → Type 0
  IsFile graph_file g = OfBytes (contents graph_file.name) (λ bytes. graph_by blocks graph_file bytes ≡ Ok g)

  -- Over the graph in the file with this name.
  module _ (graph_file : GraphFile) (g : Graph) (file : IsFile graph_file g) where
    puts : (c : Command) (Text : List ℕ → Type 0) → HasNothing a.left → ((text : List ℕ) → Text text → Writes c contents g a.left text) → PutsText a Text → Over graph_file c a.fault
    puts c Text none writes h = by_puts contents a (Over graph_file c) Text h (λ text is all. (text, (g, file, writes text is), all)) (λ rose text is part. (rose, (none.0, a.left.misses, text, (g, file, writes text is), part)))

    cyclic : (c : Command) (actors : List ℕ) → RefusedWith (fault.Cycle actors) a → IsFreeCycle g actors → Over graph_file c (Some (fault.Cycle actors))
    cyclic c actors refusal is = ((g, file, (is, refusal.1)), refusal.2)

    checked : IsDueFor Check contents g (graph_file.name ∷ []) a → Over graph_file Check a.fault
    checked h =
        by_cycles contents a (Over graph_file Check) g (AfterOffsets g a (OnlyPuts a (IsChecked g))) h (cyclic Check)
        (λ free rest. by_offsets contents a (Over graph_file Check) g (OnlyPuts a (IsChecked g)) rest (λ send offset slack refusal is. ((g, file, (free, (is, refusal.1))), refusal.2))
        (λ feasible put. puts Check (IsChecked g) put.0 (λ text is. (free, (put.0, is))) put.1))

    slacked : IsDueFor Slacks contents g (graph_file.name ∷ []) a → Over graph_file Slacks a.fault
    slacked h = by_cycles contents a (Over graph_file Slacks) g (IsSlackedBy g a) h (cyclic Slacks) last
      where
        last : NoFreeCycle g → IsSlackedBy g a → Over graph_file Slacks a.fault
        last free (inl k) = with_fault contents a (Over graph_file Slacks) (fault.Ring k.0 k.1) k.2 ((g, file, (free, (k.3, k.2.1))), k.2.2)
        last free (inr k) = puts Slacks (IsSlacked g) k.0 (λ text is. (free, (k.0, is))) k.1

    meant : IsDueFor Meaning contents g (graph_file.name ∷ []) a → Over graph_file Meaning a.fault
    meant h =
        by_cycles contents a (Over graph_file Meaning) g (AfterRows Taken contents g (graph_file.name ∷ []) a (λ rows. IsMeantBy g rows a)) h (cyclic Meaning)
        (λ free files. by_rows contents a (Over graph_file Meaning) Taken g (graph_file.name ∷ []) (λ rows. IsMeantBy g rows a) files
        (λ actor refusal is. ((g, file, (free, (is, refusal.1))), refusal.2))
        (λ actor f refusal is. ((g, file, (free, (is, refusal.1))), refusal.2))
        (λ actor row seen limit refusal is late. absurd (taken is))
        (λ rows are pass rest. last free rows are rest))
      where
        taken : Taken ≡ Refused → ⊥
        taken e = cc

        last : NoFreeCycle g → (rows : ℕ → List Row) → AreRows contents g rows → IsMeantBy g rows a → Over graph_file Meaning a.fault
        last free rows are (inl k) = with_fault contents a (Over graph_file Meaning) (fault.Long None) k.0 ((g, file, (free, (record { rows = rows; sensors = are; longer = k.1 }, k.0.1))), k.0.2)
        last free rows are (inr k) = puts Meaning (IsTables g rows (FitOnAll g)) k.0 (λ text is. (free, (k.0, record { rows = rows; sensors = are; tables = is }))) k.1

    -- a run, an audit or a replay that is refused
    slow : (workers : ℕ) (clock : ClockChoice) (log : Bool) → NoFreeCycle g → (send : ℕ) (offset : ℤ) (slack : ℕ) → RefusedWith (fault.Infeasible send offset slack) a → IsFirstInfeasible g send offset slack → Over graph_file (Run workers clock log) (Some (fault.Infeasible send offset slack))
    slow workers clock log free send offset slack refusal is = ((g, file, (free, (is, refusal.1))), refusal.2)

    unread : (workers : ℕ) (clock : ClockChoice) (log : Bool) → NoFreeCycle g → IsFeasible g → (actor : ℕ) → RefusedWith (fault.Read (Some actor)) a → SensorUnread Refused contents g actor (graph_file.name ∷ []) a.read → Over graph_file (Run workers clock log) (Some (fault.Read (Some actor)))
    unread workers clock log free feasible actor refusal is = ((g, file, (free, (feasible, is, refusal.1))), refusal.2)

    fails : (workers : ℕ) (clock : ClockChoice) (log : Bool) → NoFreeCycle g → IsFeasible g → (actor : ℕ) (f : RowFault) → RefusedWith (fault.Sensor actor f) a → SensorFails Refused contents g actor f → Over graph_file (Run workers clock log) (Some (fault.Sensor actor f))
    fails workers clock log free feasible actor f refusal is = ((g, file, (free, (feasible, is, refusal.1))), refusal.2)

    tardy : (workers : ℕ) (clock : ClockChoice) (log : Bool) → NoFreeCycle g → IsFeasible g → (actor row seen limit : ℕ) → RefusedWith (fault.LateRow actor row seen limit) a → SensorLate contents g actor row seen limit → Over graph_file (Run workers clock log) (Some (fault.LateRow actor row seen limit))
    tardy workers clock log free feasible actor row seen limit refusal is = ((g, file, (free, (feasible, is, refusal.1))), refusal.2)

    ran : (workers : ℕ) (clock : ClockChoice) (log : Bool) → IsDueFor (Run workers clock log) contents g (graph_file.name ∷ []) a → Over graph_file (Run workers clock log) a.fault
    ran workers clock log h =
        by_admission contents a (Over graph_file (Run workers clock log)) g (graph_file.name ∷ []) (HasRunBy workers clock log a) h (cyclic (Run workers clock log)) (slow workers clock log) (unread workers clock log) (fails workers clock log) (tardy workers clock log)
        (λ plan rows same admitted are in_time done. run_ended contents blocks graph_file workers clock log a.left a.read a.wrote plan rows admitted are in_time (subst (IsFile graph_file) (sym same) file) a.fault done)

    by_command : (c : Command) → IsDueFor c contents g (graph_file.name ∷ []) a → Over graph_file c a.fault
    by_command (Run workers clock log) h = ran workers clock log h
    by_command Check h = checked h
    by_command Meaning h = meant h
    by_command Slacks h = slacked h

    -- an admitted plan of the graph and the rows of its sensors
    module _ (plan : Parts) (rows : ℕ → List Row) (same : plan.graph ≡ g) (admitted : IsAdmitted plan) (are : AreRows contents plan.graph rows) (in_time : AllPass Refused plan.graph rows) where
      with_plan : (Fact : Parts → (ℕ → List Row) → Type 0) → Fact plan (of_run plan.graph rows) → RunWith contents blocks graph_file Fact
      with_plan Fact fact = record { plan = plan; file = subst (IsFile graph_file) (sym same) file; over = record { admitted = admitted; rows = rows; sensors = are; in_time = in_time; fact = fact } }

      judged : (log : List ℕ) → IsJudgedBy log contents g (graph_file.name ∷ []) a plan (of_run plan.graph rows) → EndsAudit a.fault a.left graph_file log contents blocks a.read a.wrote
      judged log h = by_judged h
        where
          by_judged : IsJudgedBy log contents g (graph_file.name ∷ []) a plan (of_run plan.graph rows) → EndsAudit a.fault a.left graph_file log contents blocks a.read a.wrote
          by_judged (inl k) =
              with_fault contents a (λ o. EndsAudit o a.left graph_file log contents blocks a.read a.wrote) fault.ReadLog k.0 (k.0.1, with_plan (λ p rs. LastFails p.graph (graph_file.name ∷ []) log a.read) (subst (λ z. LastFails z (graph_file.name ∷ []) log a.read) (sym same) k.1), k.0.2)
          by_judged (inr (inl k)) = with_fault contents a (λ o. EndsAudit o a.left graph_file log contents blocks a.read a.wrote) (fault.Unlawful k.0) k.1 (k.1.1, with_plan (OnLog contents log (λ p rs bytes. IsUnlawful p rs bytes k.0)) k.2, k.1.2)
          by_judged (inr (inr k)) =
              by_puts contents a (λ o. EndsAudit o a.left graph_file log contents blocks a.read a.wrote) (λ text. text ≡ lawful_line) k.1.1
              (λ text is all. (k.1.0, with_plan (OnLog contents log Accepts) k.0, subst (Appends a.wrote.written_before a.wrote.written_now) is all))
              (λ rose text is part. (k.1.0, with_plan (OnLog contents log Accepts) k.0, rose, subst (AppendsPart a.wrote.written_before a.wrote.written_now) is part))

      replayed : (air : List ℕ) (log : Bool) → IsReplayedBy air log contents g (graph_file.name ∷ []) a plan (of_run plan.graph rows) → EndsReplay a.fault a.left graph_file air log contents blocks a.read a.wrote
      replayed air log (inl k) =
          with_fault contents a (λ o. EndsReplay o a.left graph_file air log contents blocks a.read a.wrote) fault.ReadAir k.0 (k.0.1, with_plan (λ p rs. LastFails p.graph (graph_file.name ∷ []) air a.read) (subst (λ z. LastFails z (graph_file.name ∷ []) air a.read) (sym same) k.1), k.0.2)
      replayed air log (inr (inl k)) =
          with_fault contents a (λ o. EndsReplay o a.left graph_file air log contents blocks a.read a.wrote) (fault.Air k.0) k.1
          (k.1.1, with_plan (λ p rs. OfBytes (contents air) (λ bytes. air_of p.graph bytes ≡ Err k.0)) (subst (λ z. OfBytes (contents air) (λ bytes. air_of z bytes ≡ Err k.0)) (sym same) k.2), k.1.2)
      replayed air log (inr (inr k)) = by_outcome a.fault k.ran k.failed (with_plan (OnAir contents air (LeavesReplay log a.fault a.left a.wrote)) k.leaves)
        where
          by_outcome : (o : Option Fault) → has_replayed o ≡ true → (o ≡ Some fault.Write → Rose a.wrote.before a.wrote.now) → RunWith contents blocks graph_file (OnAir contents air (LeavesReplay log o a.left a.wrote)) → EndsReplay o a.left graph_file air log contents blocks a.read a.wrote
          by_outcome None is failed m = m
          by_outcome (Some fault.Write) is failed m = (failed refl, m)
          by_outcome (Some (fault.Long (Some platform))) is failed m = m
          by_outcome (Some (fault.LateAir platform actor tag reading limit row)) is failed m = m
          by_outcome (Some f) is failed m = absurd (not_true is)

  -- an audit
  audited : (graph_file : GraphFile) (log : List ℕ) (g : Graph) → IsFile graph_file g → AfterAdmission contents g (graph_file.name ∷ []) a (IsJudgedBy log contents g (graph_file.name ∷ []) a) → EndsAudit a.fault a.left graph_file log contents blocks a.read a.wrote
  audited graph_file log g file h =
      by_admission contents a (λ o. EndsAudit o a.left graph_file log contents blocks a.read a.wrote) g (graph_file.name ∷ []) (IsJudgedBy log contents g (graph_file.name ∷ []) a) h
      (λ actors refusal is. (refl, refusal.1, cyclic graph_file g file paced_run actors refusal is))
      (λ free send offset slack refusal is. (refl, refusal.1, slow graph_file g file 1 Paced false free send offset slack refusal is))
      (λ free feasible actor refusal is. (refl, refusal.1, unread graph_file g file 1 Paced false free feasible actor refusal is))
      (λ free feasible actor f refusal is. (refl, refusal.1, fails graph_file g file 1 Paced false free feasible actor f refusal is))
      (λ free feasible actor row seen limit refusal is. (refl, refusal.1, tardy graph_file g file 1 Paced false free feasible actor row seen limit refusal is))
      (λ plan rows same admitted are in_time fact. judged graph_file g file plan rows same admitted are in_time log fact)

  -- a replay
  replayed_file : (graph_file : GraphFile) (air : List ℕ) (log : Bool) (g : Graph) → IsFile graph_file g → AfterAdmission contents g (graph_file.name ∷ []) a (IsReplayedBy air log contents g (graph_file.name ∷ []) a) → EndsReplay a.fault a.left graph_file air log contents blocks a.read a.wrote
  replayed_file graph_file air log g file h =
      by_admission contents a (λ o. EndsReplay o a.left graph_file air log contents blocks a.read a.wrote) g (graph_file.name ∷ []) (IsReplayedBy air log contents g (graph_file.name ∷ []) a) h
      (λ actors refusal is. (refl, refusal.1, cyclic graph_file g file paced_run actors refusal is))
      (λ free send offset slack refusal is. (refl, refusal.1, slow graph_file g file 1 Paced false free send offset slack refusal is))
      (λ free feasible actor refusal is. (refl, refusal.1, unread graph_file g file 1 Paced false free feasible actor refusal is))
      (λ free feasible actor f refusal is. (refl, refusal.1, fails graph_file g file 1 Paced false free feasible actor f refusal is))
      (λ free feasible actor row seen limit refusal is. (refl, refusal.1, tardy graph_file g file 1 Paced false free feasible actor row seen limit refusal is))
      (λ plan rows same admitted are in_time fact. replayed graph_file g file plan rows same admitted are in_time air log fact)

  -- Each order.
  by_order : (order : Order) → IsDueTo order contents blocks a → Ends a.fault a.left (Some order) contents blocks a.read a.wrote
  by_order (over c graph_file) h = by_file contents a (Over graph_file c) blocks graph_file (λ g. IsDueFor c contents g (graph_file.name ∷ []) a) h (λ refusal is. (is, refusal.1, refusal.2)) (λ f refusal is. (is, refusal.1, refusal.2)) (λ g file due. by_command graph_file g file c due)
  by_order (make number workers) h =
      by_puts contents a (λ o. EndsMade o a.left number a.wrote) (IsMadeRun number a.left.platforms) h.1 (λ text is all. (h.0, text, is, all)) (λ rose text is part. (rose, h.0, text, is, part))
  by_order (migrate graph_file) h =
      by_file contents a (λ o. EndsMigrated o a.left graph_file contents blocks a.read a.wrote) blocks graph_file (λ g. OnlyPuts a (IsMigrated g blocks)) h (λ refusal is. (refusal.1, is, refusal.2)) (λ f refusal is. (refusal.1, is, refusal.2))
      (λ g file due. by_puts contents a (λ o. EndsMigrated o a.left graph_file contents blocks a.read a.wrote) (IsMigrated g blocks) due.1 (λ text is all. (due.0, (g, file, (text, is, all)))) (λ rose text is part. (due.0, rose, (g, file, (text, is, part)))))
  by_order (audit graph_file log) h =
      by_file contents a (λ o. EndsAudit o a.left graph_file log contents blocks a.read a.wrote) blocks graph_file (λ g. AfterAdmission contents g (graph_file.name ∷ []) a (IsJudgedBy log contents g (graph_file.name ∷ []) a)) h
      (λ refusal is. (refl, refusal.1, (is, refusal.1, refusal.2))) (λ f refusal is. (refl, refusal.1, (is, refusal.1, refusal.2))) (λ g file due. audited graph_file log g file due)
  by_order (replay graph_file air workers log) h =
      by_file contents a (λ o. EndsReplay o a.left graph_file air log contents blocks a.read a.wrote) blocks graph_file (λ g. AfterAdmission contents g (graph_file.name ∷ []) a (IsReplayedBy air log contents g (graph_file.name ∷ []) a)) h
      (λ refusal is. (refl, refusal.1, (is, refusal.1, refusal.2))) (λ f refusal is. (refl, refusal.1, (is, refusal.1, refusal.2))) (λ g file due. replayed_file graph_file air log g file due)

  no_memory : (order : Order) → RefusedWith fault.Memory a → Ends a.fault a.left (Some order) contents blocks a.read a.wrote
  no_memory order refusal = with_fault contents a (λ o. Ends o a.left (Some order) contents blocks a.read a.wrote) fault.Memory refusal (by order)
    where
      by : (z : Order) → Ends (Some fault.Memory) a.left (Some z) contents blocks a.read a.wrote
      by (over c graph_file) = (refusal.1, refusal.2)
      by (make number workers) = (refusal.1, refusal.2)
      by (migrate graph_file) = (refusal.1, tt, refusal.2)
      by (audit graph_file log) = (refusal.1, refusal.2)
      by (replay graph_file air workers log) = (refusal.1, refusal.2)

  -- what is due, by the fault
  pub due_ends : (order : Option Order) → IsDue order contents blocks a → Ends a.fault a.left order contents blocks a.read a.wrote
  due_ends None (inl refusal) = with_fault contents a (λ o. Ends o a.left None contents blocks a.read a.wrote) fault.Memory refusal (refusal.1, refusal.2)
  due_ends None (inr refusal) = with_fault contents a (λ o. Ends o a.left None contents blocks a.read a.wrote) fault.Usage refusal (refl, refusal.1, refusal.2)
  due_ends (Some order) (inl refusal) = no_memory order refusal
  due_ends (Some order) (inr h) = by_order order h
