-- From stage to stage of what is due.
use Rattle.std.proofs.Common.{◌≡◌, ◌⊎◌, ◌∙◌, ℕ, ℤ, ◌≤◌, Bool, true, false, List, [], ◌∷◌, Option, Some, None, Ok, Err, sym, ap, subst, inl, inr}
use Rattle.pt_io.specs.Causes.{Appends, AppendsPart, Rose}
use Rattle.pt_types.specs.declared.graph.Graph.{Graph}
use Rattle.pt_types.specs.declared.rows.Row.{Row}
use Rattle.pt_blocks.specs.declared.blocks.Named.{Named}
use Rattle.pt_graph_text.specs.declared.fault.GraphFault.{GraphFault}
use Rattle.pt_semantics.specs.Cycles.{NoFreeCycle}
use Rattle.pt_semantics.specs.Offsets.{IsFeasible}
use Rattle.pt_causality.specs.Ranked.{IsFreeCycle}
use Rattle.pt_offsets.specs.Margins.{IsFirstInfeasible}
use Rattle.pt_offsets.specs.Plans.{IsAdmitted, Parts}
use Rattle.pt_sensors.specs.declared.fault.RowFault.{RowFault}
use Rattle.pt_sensor_files.specs.declared.recorded_fault.LateRows.{LateRows}
use Rattle.pt_sensor_files.specs.declared.recorded_fault.LateRows.TheVariants.{Refused, Taken}
use Rattle.pt_sensor_files.specs.Asked.{Asks, ReadFails, files_before}
use Rattle.pt_io.specs.Calls.{Contents, SourceCall, SinkCall}
use Rattle.pt_sensors.specs.Places.{of_run}
use Rattle.pt_sensor_files.specs.Recorded.{AllPass, AreRows, SensorFails, SensorLate, SensorUnread}
use Rattle.pt_slacks.specs.Text.{IsSlacked}
use Rattle.pt_sensor_files.proofs.Asking.{read_after}
use Rattle.pt_run.specs.declared.fault.Fault.{Fault}
use Rattle.pt_run.specs.declared.fault.Fault.TheVariants as fault
use Rattle.pt_words.specs.declared.orders.Command.{Command}
use Rattle.pt_words.specs.declared.orders.Command.TheVariants.{Run, Check, Meaning, Slacks}
use Rattle.pt_run.specs.Asks.{all_sensors}
use Rattle.pt_run.specs.Auditing.{LastFails, lawful_line}
use Rattle.pt_run.specs.Due.{AfterAdmission, AfterAir, AfterCycles, AfterFile, AfterOffsets, AfterRows, Answer, HasRunBy, IsAudited, IsDueFor, IsDueTo, IsJudgedBy, IsMeantBy, IsReplayed, IsReplayedBy, IsSlackedBy, OnlyPuts, PutsText, RefusedWith, RefusesAsDue, UnlessMemory, WithPlan}
use Rattle.pt_run.specs.Replaying.{has_replayed}
use Rattle.pt_run.specs.Reporting.{AreOfGraph}
use Rattle.pt_words.specs.Grammar.{GraphFile, over, audit, replay}
use Rattle.pt_run.specs.Written.{FitOnAll, HasNothing, IsChecked, IsTables, Leaves, has_run}
use Rattle.pt_run.proofs.Endings.{past_file, reported_due}
use Rattle.pt_run.proofs.Reported.{of_none}
use Rattle.pt_run.specs.GraphFiles.{graph_by}
use Rattle.pt_sensor_files.specs.Bytes.{OfBytes}

pub not_true : false ≡ true → ⊥
not_true e = cc

-- if what follows from each refusal is known
module _ (contents : Contents) (a : Answer) (Goal : Option Fault → Type 0) where
  pub with_fault : (f : Fault) → RefusedWith f a → Goal (Some f) → Goal a.fault
  with_fault f h goal = subst Goal (sym h.0) goal

  pub by_puts : (Text : List ℕ → Type 0) → PutsText a Text → ((text : List ℕ) → Text text → Appends a.wrote.written_before a.wrote.written_now text → Goal None)
      → (Rose a.wrote.before a.wrote.now → (text : List ℕ) → Text text → AppendsPart a.wrote.written_before a.wrote.written_now text → Goal (Some fault.Write)) → Goal a.fault
  by_puts Text (inl h) all part = subst Goal (sym h.0) (all h.1 h.2 h.3)
  by_puts Text (inr h) all part = subst Goal (sym h.0) (part h.1 h.2 h.3 h.4)

  pub by_file : (blocks : List Named) (graph_file : GraphFile) (Then : Graph → Type 0) → AfterFile contents blocks graph_file a Then → (RefusedWith (fault.Read None) a → ReadFails [] graph_file.name a.read → Goal (Some (fault.Read None)))
      → ((f : GraphFault) → RefusedWith (fault.Graph f) a → OfBytes (contents graph_file.name) (λ bytes. graph_by blocks graph_file bytes ≡ Err f) → Goal (Some (fault.Graph f))) → ((g : Graph) → OfBytes (contents graph_file.name) (λ bytes. graph_by blocks graph_file bytes ≡ Ok g) → Then g → Goal a.fault) → Goal a.fault
  by_file blocks graph_file Then (inl h) unread fails on = with_fault (fault.Read None) h.0 (unread h.0 h.1)
  by_file blocks graph_file Then (inr (inl h)) unread fails on = with_fault (fault.Graph h.0) h.1 (fails h.0 h.1 h.2)
  by_file blocks graph_file Then (inr (inr h)) unread fails on = on h.0 h.1 h.2

  pub by_cycles : (g : Graph) (Then : Type 0) → AfterCycles g a Then → ((actors : List ℕ) → RefusedWith (fault.Cycle actors) a → IsFreeCycle g actors → Goal (Some (fault.Cycle actors))) → (NoFreeCycle g → Then → Goal a.fault) → Goal a.fault
  by_cycles g Then (inl h) cyclic on = with_fault (fault.Cycle h.0) h.1 (cyclic h.0 h.1 h.2)
  by_cycles g Then (inr h) cyclic on = on h.0 h.1

  pub by_offsets : (g : Graph) (Then : Type 0) → AfterOffsets g a Then
      → ((send : ℕ) (offset : ℤ) (slack : ℕ) → RefusedWith (fault.Infeasible send offset slack) a → IsFirstInfeasible g send offset slack → Goal (Some (fault.Infeasible send offset slack))) → (IsFeasible g → Then → Goal a.fault) → Goal a.fault
  by_offsets g Then (inl h) slow on = with_fault (fault.Infeasible h.0 h.1 h.2) h.3 (slow h.0 h.1 h.2 h.3 h.4)
  by_offsets g Then (inr h) slow on = on h.0 h.1

  pub by_rows : (late : LateRows) (g : Graph) (others : List (List ℕ)) (Then : (ℕ → List Row) → Type 0) → AfterRows late contents g others a Then
      → ((actor : ℕ) → RefusedWith (fault.Read (Some actor)) a → SensorUnread late contents g actor others a.read → Goal (Some (fault.Read (Some actor))))
      → ((actor : ℕ) (f : RowFault) → RefusedWith (fault.Sensor actor f) a → SensorFails late contents g actor f → Goal (Some (fault.Sensor actor f)))
      → ((actor row seen limit : ℕ) → RefusedWith (fault.LateRow actor row seen limit) a → late ≡ Refused → SensorLate contents g actor row seen limit → Goal (Some (fault.LateRow actor row seen limit)))
      → ((rows : ℕ → List Row) → AreRows contents g rows → AllPass late g rows → Then rows → Goal a.fault) → Goal a.fault
  by_rows late g others Then (inl h) unread fails tardy on = with_fault (fault.Read (Some h.0)) h.1 (unread h.0 h.1 h.2)
  by_rows late g others Then (inr (inl h)) unread fails tardy on = with_fault (fault.Sensor h.0 h.1) h.2 (fails h.0 h.1 h.2 h.3)
  by_rows late g others Then (inr (inr (inl h))) unread fails tardy on = with_fault (fault.LateRow h.0 h.1 h.2 h.3) h.4 (tardy h.0 h.1 h.2 h.3 h.4 h.5 h.6)
  by_rows late g others Then (inr (inr (inr h))) unread fails tardy on = on h.0 h.1 h.2 h.3

  abbrev Planned : Graph → (Parts → (ℕ → List Row) → Type 0) → (ℕ → List Row) → Type 0
  Planned g Then rows = WithPlan g (λ plan. Then plan (of_run g rows))

  pub by_admission : (g : Graph) (others : List (List ℕ)) (Then : Parts → (ℕ → List Row) → Type 0) → AfterAdmission contents g others a Then
      → ((actors : List ℕ) → RefusedWith (fault.Cycle actors) a → IsFreeCycle g actors → Goal (Some (fault.Cycle actors)))
      → (NoFreeCycle g → (send : ℕ) (offset : ℤ) (slack : ℕ) → RefusedWith (fault.Infeasible send offset slack) a → IsFirstInfeasible g send offset slack → Goal (Some (fault.Infeasible send offset slack)))
      → (NoFreeCycle g → IsFeasible g → (actor : ℕ) → RefusedWith (fault.Read (Some actor)) a → SensorUnread Refused contents g actor others a.read → Goal (Some (fault.Read (Some actor))))
      → (NoFreeCycle g → IsFeasible g → (actor : ℕ) (f : RowFault) → RefusedWith (fault.Sensor actor f) a → SensorFails Refused contents g actor f → Goal (Some (fault.Sensor actor f)))
      → (NoFreeCycle g → IsFeasible g → (actor row seen limit : ℕ) → RefusedWith (fault.LateRow actor row seen limit) a → SensorLate contents g actor row seen limit → Goal (Some (fault.LateRow actor row seen limit)))
      → ((plan : Parts) (rows : ℕ → List Row) → plan.graph ≡ g → IsAdmitted plan → AreRows contents plan.graph rows → AllPass Refused plan.graph rows → Then plan (of_run plan.graph rows) → Goal a.fault) → Goal a.fault
  by_admission g others Then h cyclic slow unread fails tardy on =
      by_cycles g (AfterOffsets g a (AfterRows Refused contents g others a (Planned g Then))) h cyclic
      (λ free offsets. by_offsets g (AfterRows Refused contents g others a (Planned g Then)) offsets (slow free)
      (λ feasible files. by_rows Refused g others (Planned g Then) files (unread free feasible) (fails free feasible) (λ actor row seen limit refusal is late. tardy free feasible actor row seen limit refusal late)
      (λ rows are pass rest.
      let (at, in_time, fact) = subst (λ z. AreRows contents z rows × AllPass Refused z rows × Then rest.0 (of_run z rows)) (sym rest.1) (are, pass, rest.3) in
      on rest.0 rows rest.1 rest.2 at in_time fact)))

-- The same stage, after other files were asked for.
module _ (o : Option Fault) (left : Leaves) (r q : SourceCall) (w : SinkCall) where
  -- an answer, by what was read
  abbrev at : SourceCall → Answer
  at z = record { fault = o; left = left; read = z; wrote = w }

  on_cycles : (g : Graph) (Then Other : Type 0) → (Then → Other) → AfterCycles g (at r) Then → AfterCycles g (at q) Other
  on_cycles g Then Other on (inl h) = inl h
  on_cycles g Then Other on (inr h) = inr (h.0, on h.1)

  on_offsets : (g : Graph) (Then Other : Type 0) → (Then → Other) → AfterOffsets g (at r) Then → AfterOffsets g (at q) Other
  on_offsets g Then Other on (inl h) = inl h
  on_offsets g Then Other on (inr h) = inr (h.0, on h.1)

  module _ (contents : Contents) (g : Graph) (others more : List (List ℕ)) (unread : (late : LateRows) (actor : ℕ) → SensorUnread late contents g actor others r → SensorUnread late contents g actor more q) where
    on_rows : (late : LateRows) (Then Other : (ℕ → List Row) → Type 0) → ((rows : ℕ → List Row) → Then rows → Other rows) → AfterRows late contents g others (at r) Then → AfterRows late contents g more (at q) Other
    on_rows late Then Other on (inl h) = inl (h.0, h.1, unread late h.0 h.2)
    on_rows late Then Other on (inr (inl h)) = inr (inl h)
    on_rows late Then Other on (inr (inr (inl h))) = inr (inr (inl h))
    on_rows late Then Other on (inr (inr (inr h))) = inr (inr (inr (h.0, h.1, h.2, on h.0 h.3)))

    on_admission : (Then Other : Parts → (ℕ → List Row) → Type 0) → ((plan : Parts) (rows : ℕ → List Row) → Then plan rows → Other plan rows) → AfterAdmission contents g others (at r) Then → AfterAdmission contents g more (at q) Other
    on_admission Then Other on h =
        on_cycles g (AfterOffsets g (at r) (AfterRows Refused contents g others (at r) (λ rows. WithPlan g (λ plan. Then plan (of_run g rows))))) (AfterOffsets g (at q) (AfterRows Refused contents g more (at q) (λ rows. WithPlan g (λ plan. Other plan (of_run g rows)))))
        (on_offsets g (AfterRows Refused contents g others (at r) (λ rows. WithPlan g (λ plan. Then plan (of_run g rows)))) (AfterRows Refused contents g more (at q) (λ rows. WithPlan g (λ plan. Other plan (of_run g rows))))
        (on_rows Refused (λ rows. WithPlan g (λ plan. Then plan (of_run g rows))) (λ rows. WithPlan g (λ plan. Other plan (of_run g rows))) (λ rows k. (k.0, k.1, k.2, on k.0 (of_run g rows) k.3)))) h

    on_command : (c : Command) → IsDueFor c contents g others (at r) → IsDueFor c contents g more (at q)
    on_command (Run workers clock log) h = on_admission (HasRunBy workers clock log (at r)) (HasRunBy workers clock log (at q)) (λ plan rows k. record { ran = k.ran; leaves = k.leaves; failed = k.failed; paced = k.paced }) h
    on_command Check h = on_cycles g (AfterOffsets g (at r) (OnlyPuts (at r) (IsChecked g))) (AfterOffsets g (at q) (OnlyPuts (at q) (IsChecked g))) (on_offsets g (OnlyPuts (at r) (IsChecked g)) (OnlyPuts (at q) (IsChecked g)) (λ k. k)) h
    on_command Meaning h =
        on_cycles g (AfterRows Taken contents g others (at r) (λ rows. IsMeantBy g rows (at r))) (AfterRows Taken contents g more (at q) (λ rows. IsMeantBy g rows (at q)))
        (on_rows Taken (λ rows. IsMeantBy g rows (at r)) (λ rows. IsMeantBy g rows (at q)) (λ rows k. k)) h
    on_command Slacks h = on_cycles g (IsSlackedBy g (at r)) (IsSlackedBy g (at q)) (λ k. k) h

  on_judged : (log : List ℕ) (contents : Contents) (g : Graph) (others more : List (List ℕ)) → (LastFails g others log r → LastFails g more log q) → (plan : Parts) (rows : ℕ → List Row) → IsJudgedBy log contents g others (at r) plan rows → IsJudgedBy log contents g more (at q) plan rows
  on_judged log contents g others more last plan rows (inl h) = inl (h.0, last h.1)
  on_judged log contents g others more last plan rows (inr h) = inr h

  on_replayed : (air : List ℕ) (log : Bool) (contents : Contents) (g : Graph) (others more : List (List ℕ)) → (LastFails g others air r → LastFails g more air q) → (plan : Parts) (rows : ℕ → List Row) → IsReplayedBy air log contents g others (at r) plan rows → IsReplayedBy air log contents g more (at q) plan rows
  on_replayed air log contents g others more last plan rows (inl h) = inl (h.0, last h.1)
  on_replayed air log contents g others more last plan rows (inr (inl h)) = inr (inl h)
  on_replayed air log contents g others more last plan rows (inr (inr h)) = inr (inr (record { ran = h.ran; leaves = h.leaves; failed = h.failed }))

  on_memory : (Then Other : Answer → Type 0) → (Then (at r) → Other (at q)) → UnlessMemory (at r) Then → UnlessMemory (at q) Other
  on_memory Then Other on (inl h) = inl h
  on_memory Then Other on (inr h) = inr (on h)

-- the graph file was asked for before, and it defines this graph
module _ (contents : Contents) (blocks : List Named) (graph_file : GraphFile) (g : Graph) (read : OfBytes (contents graph_file.name) (λ bytes. graph_by blocks graph_file bytes ≡ Ok g)) (o : Option Fault) (left : Leaves) (first asked now : Option (List (List ℕ))) (start before last : ℕ) (w : SinkCall) (asks : Asks first asked (graph_file.name ∷ [])) (grew : start ≤ before) where
  abbrev inner : SourceCall
  inner = record { asked_before = asked; asked_now = now; before = before; now = last }

  abbrev outer : SourceCall
  outer = record { asked_before = first; asked_now = now; before = start; now = last }

  unread : (late : LateRows) (actor : ℕ) → SensorUnread late contents g actor [] inner → SensorUnread late contents g actor (graph_file.name ∷ []) outer
  unread late actor u = record {
    earlier = u.earlier;
    file = u.file;
    bound = u.bound;
    sensor = u.sensor;
    failed = read_after (graph_file.name ∷ []) (files_before g actor) u.file first asked now start before last asks grew u.failed;
  }

  last_fails : (file : List ℕ) → LastFails g [] file inner → LastFails g (graph_file.name ∷ []) file outer
  last_fails file failed = read_after (graph_file.name ∷ []) (all_sensors g) file first asked now start before last asks grew failed

  -- the answer, if it is by what was read of the graph's files, and if by what was read in all
  abbrev there : Answer
  there = record { fault = o; left = left; read = inner; wrote = w }

  abbrev here : Answer
  here = record { fault = o; left = left; read = outer; wrote = w }

  pub command_on_file : (c : Command) → UnlessMemory there (IsDueFor c contents g []) → UnlessMemory here (IsDueTo (over c graph_file) contents blocks)
  command_on_file c h = on_memory o left inner outer w (IsDueFor c contents g []) (IsDueTo (over c graph_file) contents blocks) (λ k. inr (inr (g, read, on_command o left inner outer w contents g [] (graph_file.name ∷ []) unread c k))) h

  pub audit_on_file : (log : List ℕ) → UnlessMemory there (IsAudited log contents g []) → UnlessMemory here (IsDueTo (audit graph_file log) contents blocks)
  audit_on_file log h =
      on_memory o left inner outer w (IsAudited log contents g []) (IsDueTo (audit graph_file log) contents blocks)
      (λ k. inr (inr (g, read, on_admission o left inner outer w contents g [] (graph_file.name ∷ []) unread (IsJudgedBy log contents g [] there) (IsJudgedBy log contents g (graph_file.name ∷ []) here) (on_judged o left inner outer w log contents g [] (graph_file.name ∷ []) (last_fails log)) k))) h

  pub replay_on_file : (air : List ℕ) (workers : ℕ) (log : Bool) → UnlessMemory there (IsReplayed air log contents g []) → UnlessMemory here (IsDueTo (replay graph_file air workers log) contents blocks)
  replay_on_file air workers log h =
      on_memory o left inner outer w (IsReplayed air log contents g []) (IsDueTo (replay graph_file air workers log) contents blocks)
      (λ k. inr (inr (g, read, on_admission o left inner outer w contents g [] (graph_file.name ∷ []) unread (IsReplayedBy air log contents g [] there) (IsReplayedBy air log contents g (graph_file.name ∷ []) here) (on_replayed o left inner outer w air log contents g [] (graph_file.name ∷ []) (last_fails air)) k))) h

-- the graph file gave no graph
pub graph_reported : (contents : Contents) (blocks : List Named) (graph_file : GraphFile) (a : Answer) (Then : Graph → Type 0) → HasNothing a.left → a.wrote.written_now ≡ a.wrote.written_before → (f reported : Fault) → a.fault ≡ Some reported → (reported ≡ f) ⊎ (reported ≡ fault.Memory) →
    RefusesAsDue f a.read (λ a. AfterFile contents blocks graph_file a (λ g. ⊥)) → UnlessMemory a (λ z. AfterFile contents blocks graph_file z Then)
graph_reported contents blocks graph_file a Then nothing still f reported is report refuses = past_file contents blocks graph_file a.read a Then (reported_due a f reported (λ a. AfterFile contents blocks graph_file a (λ g. ⊥)) nothing still is report refuses)

-- what is due after the admission is so if it follows from what was found
pub on_admitted : (contents : Contents) (g : Graph) (Found Then : Answer → Parts → (ℕ → List Row) → Type 0) (a : Answer) → ((plan : Parts) (rows : ℕ → List Row) → Found a plan rows → Then a plan rows) →
    UnlessMemory a (λ a. AfterAdmission contents g [] a (Found a)) → UnlessMemory a (λ a. AfterAdmission contents g [] a (Then a))
on_admitted contents g Found Then a on (inl out) = inl out
on_admitted contents g Found Then a on (inr h) = inr (on_admission a.fault a.left a.read a.read a.wrote contents g [] [] (λ late actor u. u) (Found a) (Then a) on h)

-- a call that is refused up to its recording goes on with none
pub past_air : (air : List ℕ) (log : Bool) (contents : Contents) (g : Graph) (a : Answer) → UnlessMemory a (λ a. AfterAdmission contents g [] a (λ p rows. AfterAir air contents g [] a ⊥)) → UnlessMemory a (IsReplayed air log contents g [])
past_air air log contents g a h = on_admitted contents g (λ a p rows. AfterAir air contents g [] a ⊥) (IsReplayedBy air log contents g []) a past h
  where
    past : (plan : Parts) (rows : ℕ → List Row) → AfterAir air contents g [] a ⊥ → IsReplayedBy air log contents g [] a plan rows
    past plan rows (inl k) = inl k
    past plan rows (inr (inl k)) = inr (inl k)
    past plan rows (inr (inr never)) = absurd never

-- What is known once the graph was read.

-- the fault, if any, is not one of the words or of the graph file
abbrev pub IsPastFile : Option Fault → Type 0
IsPastFile (Some fault.Usage) = ⊥
IsPastFile (Some (fault.Graph f)) = ⊥
IsPastFile (Some (fault.Read None)) = ⊥
IsPastFile _ = Unit {0}

past_run : (o : Option Fault) → has_run o ≡ true → IsPastFile o
past_run (Some fault.Usage) is = not_true is
past_run (Some (fault.Graph f)) is = not_true is
past_run (Some (fault.Read None)) is = not_true is
past_run o is = tt

past_replay : (o : Option Fault) → has_replayed o ≡ true → IsPastFile o
past_replay (Some fault.Usage) is = not_true is
past_replay (Some (fault.Graph f)) is = not_true is
past_replay (Some (fault.Read None)) is = not_true is
past_replay o is = tt

module _ (contents : Contents) (g : Graph) (others : List (List ℕ)) (a : Answer) where
  -- and the platforms that are left are of the graph
  abbrev pub IsPast : Option Fault → Type 0
  IsPast o = AreOfGraph a.left.platforms g × IsPastFile o

  past_text : (Text : List ℕ → Type 0) → OnlyPuts a Text → IsPast a.fault
  past_text Text h = by_puts contents a IsPast Text h.1 (λ text is all. (of_none a.left g h.0, tt)) (λ rose text is part. (of_none a.left g h.0, tt))

  past_cycles : (Then : Type 0) → (Then → IsPast a.fault) → AfterCycles g a Then → IsPast a.fault
  past_cycles Then on h = by_cycles contents a IsPast g Then h (λ actors out is. (of_none a.left g out.1, tt)) (λ free k. on k)

  past_admission : (Then : Parts → (ℕ → List Row) → Type 0) → ((plan : Parts) (rows : ℕ → List Row) → plan.graph ≡ g → Then plan rows → IsPast a.fault) → AfterAdmission contents g others a Then → IsPast a.fault
  past_admission Then on h =
      by_admission contents a IsPast g others Then h (λ actors out is. (of_none a.left g out.1, tt)) (λ free send offset slack out is. (of_none a.left g out.1, tt)) (λ free feasible actor out is. (of_none a.left g out.1, tt))
      (λ free feasible actor f out is. (of_none a.left g out.1, tt)) (λ free feasible actor row seen limit out is. (of_none a.left g out.1, tt)) (λ plan rows same admitted are in_time k. on plan (of_run plan.graph rows) same k)

  past_command : (c : Command) → IsDueFor c contents g others a → IsPast a.fault
  past_command (Run workers clock log) h = past_admission (HasRunBy workers clock log a) (λ plan rows same k. ((λ i v at. ap (λ (p : Parts). p.graph) (k.leaves.kept.all.plans i v at) ∙ same), past_run a.fault k.ran)) h
  past_command Check h =
      past_cycles (AfterOffsets g a (OnlyPuts a (IsChecked g)))
      (λ rest. by_offsets contents a IsPast g (OnlyPuts a (IsChecked g)) rest (λ send offset slack out is. (of_none a.left g out.1, tt)) (λ feasible k. past_text (IsChecked g) k)) h
  past_command Meaning h =
      past_cycles (AfterRows Taken contents g others a (λ rows. IsMeantBy g rows a))
      (λ files. by_rows contents a IsPast Taken g others (λ rows. IsMeantBy g rows a) files (λ actor out is. (of_none a.left g out.1, tt)) (λ actor f out is. (of_none a.left g out.1, tt)) (λ actor row seen limit out is late. (of_none a.left g out.1, tt))
      (λ rows are pass k. last rows k)) h
    where
      last : (rows : ℕ → List Row) → IsMeantBy g rows a → IsPast a.fault
      last rows (inl k) = with_fault contents a IsPast (fault.Long None) k.0 (of_none a.left g k.0.1, tt)
      last rows (inr k) = past_text (IsTables g rows (FitOnAll g)) k
  past_command Slacks h = past_cycles (IsSlackedBy g a) last h
    where
      last : IsSlackedBy g a → IsPast a.fault
      last (inl k) = with_fault contents a IsPast (fault.Ring k.0 k.1) k.2 (of_none a.left g k.2.1, tt)
      last (inr k) = past_text (IsSlacked g) k

  past_judged : (log : List ℕ) (plan : Parts) (rows : ℕ → List Row) → IsJudgedBy log contents g others a plan rows → IsPast a.fault
  past_judged log plan rows (inl k) = with_fault contents a IsPast fault.ReadLog k.0 (of_none a.left g k.0.1, tt)
  past_judged log plan rows (inr (inl k)) = with_fault contents a IsPast (fault.Unlawful k.0) k.1 (of_none a.left g k.1.1, tt)
  past_judged log plan rows (inr (inr k)) = past_text (λ text. text ≡ lawful_line) k.1

  past_replayed : (air : List ℕ) (log : Bool) (plan : Parts) (rows : ℕ → List Row) → plan.graph ≡ g → IsReplayedBy air log contents g others a plan rows → IsPast a.fault
  past_replayed air log plan rows same (inl k) = with_fault contents a IsPast fault.ReadAir k.0 (of_none a.left g k.0.1, tt)
  past_replayed air log plan rows same (inr (inl k)) = with_fault contents a IsPast (fault.Air k.0) k.1 (of_none a.left g k.1.1, tt)
  past_replayed air log plan rows same (inr (inr k)) = ((λ i v at. ap (λ (p : Parts). p.graph) (k.leaves.fact.replayed.all.plans i v at) ∙ same), past_replay a.fault k.ran)

  past_memory : (Then : Answer → Type 0) → (Then a → IsPast a.fault) → UnlessMemory a Then → IsPast a.fault
  past_memory Then on (inl k) = with_fault contents a IsPast fault.Memory k (of_none a.left g k.1, tt)
  past_memory Then on (inr k) = on k

  pub command_past : (c : Command) → UnlessMemory a (IsDueFor c contents g others) → IsPast a.fault
  command_past c h = past_memory (IsDueFor c contents g others) (past_command c) h

  pub audit_past : (log : List ℕ) → UnlessMemory a (IsAudited log contents g others) → IsPast a.fault
  audit_past log h = past_memory (IsAudited log contents g others) (past_admission (IsJudgedBy log contents g others a) (λ plan rows same k. past_judged log plan rows k)) h

  pub replay_past : (air : List ℕ) (log : Bool) → UnlessMemory a (IsReplayed air log contents g others) → IsPast a.fault
  replay_past air log h = past_memory (IsReplayed air log contents g others) (past_admission (IsReplayedBy air log contents g others a) (past_replayed air log)) h
