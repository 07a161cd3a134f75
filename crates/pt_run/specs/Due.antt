-- How a call ends: for each order what is due, in the order of its refusals.
--
-- A command goes from stage to stage: the graph file, the cycles of its graph, the offsets, the rows of its sensors, and so on. At
-- each stage it is refused, for a cause that is this stage's alone, or it goes on to the next. `IsDueTo` and `IsDueFor` list the stages
-- of each order and of each command.
use Rattle.std.specs.Prelude.{◌≡◌, ◌⊎◌, ℕ, ℤ, Bool, true, List, [], ◌∷◌, Option, Some, None, Result, Ok, Err}
use Rattle.pt_io.specs.Causes.{Appends, AppendsPart, Rose}
use Rattle.pt_types.specs.declared.graph.Graph.{Graph}
use Rattle.pt_types.specs.declared.rows.Row.{Row}
use Rattle.pt_blocks.specs.declared.blocks.Named.{Named}
use Rattle.pt_graph_text.specs.declared.fault.GraphFault.{GraphFault}
use Rattle.pt_semantics.specs.Cycles.{NoFreeCycle}
use Rattle.pt_semantics.specs.Offsets.{IsFeasible}
use Rattle.pt_causality.specs.Ranked.{IsFreeCycle, level_of}
use Rattle.pt_offsets.specs.Margins.{IsFirstInfeasible}
use Rattle.pt_offsets.specs.Plans.{IsAdmitted, Parts}
use Rattle.pt_slacks.specs.Rings.{IsRing}
use Rattle.pt_slacks.specs.Text.{IsSlacked}
use Rattle.pt_sensors.specs.declared.fault.RowFault.{RowFault}
use Rattle.pt_sensor_files.specs.declared.recorded_fault.LateRows.{LateRows}
use Rattle.pt_sensor_files.specs.declared.recorded_fault.LateRows.TheVariants.{Refused, Taken}
use Rattle.pt_sensor_files.specs.Asked.{ReadFails}
use Rattle.pt_io.specs.Calls.{Contents, SourceCall, SinkCall}
use Rattle.pt_sensors.specs.Places.{of_run}
use Rattle.pt_sensor_files.specs.Recorded.{AllPass, AreRows, SensorFails, SensorLate, SensorUnread}
use Rattle.pt_air.specs.declared.fault.AirFault.{AirFault}
use Rattle.pt_air.specs.AirOf.{air_of}
use Rattle.pt_audit.specs.declared.verdict.Verdict.{Verdict}
use Rattle.pt_turn.specs.Platforms.{PlatformView}
use Rattle.pt_rounds.specs.Outcome.{IsOutcome as IsPacedOutcome}
use Rattle.pt_words.specs.declared.orders.ClockChoice.{ClockChoice}
use Rattle.pt_words.specs.declared.orders.ClockChoice.TheVariants.{Paced}
use Rattle.pt_run.specs.declared.fault.Fault.{Fault}
use Rattle.pt_run.specs.declared.fault.Fault.TheVariants as fault
use Rattle.pt_run.specs.declared.outcome.Ending.{Ending}
use Rattle.pt_words.specs.declared.orders.Command.{Command}
use Rattle.pt_words.specs.declared.orders.Command.TheVariants.{Run, Check, Meaning, Slacks}
use Rattle.pt_run.specs.Auditing.{Accepts, IsUnlawful, LastFails, lawful_line}
use Rattle.pt_run.specs.Causes.{IsTooLongForAll}
use Rattle.pt_run.specs.Leaving.{LeavesRun}
use Rattle.pt_run.specs.Making.{IsMadeRun}
use Rattle.pt_run.specs.Migrating.{IsMigrated}
use Rattle.pt_run.specs.Replaying.{LeavesReplay, OnAir, has_replayed}
use Rattle.pt_run.specs.Texts.{left_by}
use Rattle.pt_words.specs.Grammar.{GraphFile, Order, over, make, migrate, audit, replay}
use Rattle.pt_run.specs.Written.{FitOnAll, GraphWith, HasNothing, IsChecked, IsTables, Leaves, run_clocks, has_run, leaves_nothing, stop_of}
use Rattle.pt_run.specs.GraphFiles.{graph_by}
use Rattle.pt_sensor_files.specs.Bytes.{OfBytes}

-- the answer of a call: its fault, what it leaves, and the source and the sink before it and after it
pub record Answer : Type 0 where
  pub fault : Option Fault
  pub left : Leaves
  pub read : SourceCall
  pub wrote : SinkCall

-- the answer of a call that ended with this fault or without one, left this, and read and wrote so
abbrev pub as_answer : Option Fault → Leaves → SourceCall → SinkCall → Answer
as_answer outcome left r w = record { fault = outcome; left = left; read = r; wrote = w }

-- the answer of a call that ended so and read no clock that was handed in
abbrev pub answer_by : Ending → SourceCall → SinkCall → Answer
answer_by o r w = as_answer o.fault (left_by o) r w

-- the call is refused with this fault: it leaves nothing and writes nothing
abbrev pub RefusedWith : Fault → Answer → Type 0
RefusedWith f a = (a.fault ≡ Some f) × HasNothing a.left × (a.wrote.written_now ≡ a.wrote.written_before)

-- the call is stopped with this fault: it gives no misses, leaves these platforms, and writes nothing
abbrev pub StoppedWith : Fault → List PlatformView → Answer → Type 0
StoppedWith f platforms a = (a.fault ≡ Some f) × ((a.left.misses ≡ []) × (a.left.platforms ≡ platforms)) × (a.wrote.written_now ≡ a.wrote.written_before)

-- such a text is put: all of it, or a prefix if a write fails
abbrev pub PutsText : Answer → (List ℕ → Type 0) → Type 0
PutsText a Text =
    ((a.fault ≡ None) × (text : List ℕ) × Text text × Appends a.wrote.written_before a.wrote.written_now text)
    ⊎ ((a.fault ≡ Some fault.Write) × Rose a.wrote.before a.wrote.now × (text : List ℕ) × Text text × AppendsPart a.wrote.written_before a.wrote.written_now text)

-- nothing is left, and such a text is put
abbrev pub OnlyPuts : Answer → (List ℕ → Type 0) → Type 0
OnlyPuts a Text = HasNothing a.left × PutsText a Text

-- memory ran out, and nothing is left or written; or this is due
abbrev pub UnlessMemory : Answer → (Answer → Type 0) → Type 0
UnlessMemory a Due = RefusedWith fault.Memory a ⊎ Due a

-- the call answers with what was made: it puts the text, or is refused with the fault
abbrev pub Answers : {X : Type 0} → (X → List ℕ) → Result X Fault → Answer → Type 0
Answers text (Ok made) a = OnlyPuts a (λ put. put ≡ text made)
Answers text (Err f) a = RefusedWith f a

-- a call that is refused with this fault after this reading ends as is due, unless memory runs out
abbrev pub RefusesAsDue : Fault → SourceCall → (Answer → Type 0) → Type 0
RefusesAsDue f r Due = (a : Answer) → a.read ≡ r → RefusedWith f a → UnlessMemory a Due

-- so does a call that is stopped with this fault and leaves these platforms
abbrev pub StopsAsDue : Fault → List PlatformView → SourceCall → (Answer → Type 0) → Type 0
StopsAsDue f platforms r Due = (a : Answer) → a.read ≡ r → StoppedWith f platforms a → UnlessMemory a Due

-- a call that ends so is refused, as is due after any reading, unless memory runs out
abbrev pub EndsRefused : Ending → (Answer → Type 0) → Type 0
EndsRefused o Due = (left_by o ≡ leaves_nothing) × (f : Fault) × (o.fault ≡ Some f) × ((r : SourceCall) → RefusesAsDue f r Due)

-- a call that answers so after this reading ends as is due, unless memory runs out
abbrev pub AnswersAsDue : {X : Type 0} → (X → List ℕ) → Result X Fault → SourceCall → (Answer → Type 0) → Type 0
AnswersAsDue text made r Due = (a : Answer) → a.read ≡ r → Answers text made a → UnlessMemory a Due

-- The stages.

-- the graph file: it could not be read; or its text has a fault; or it defines a graph, and the call goes on with it
abbrev pub AfterFile : Contents → List Named → GraphFile → Answer → (Graph → Type 0) → Type 0
AfterFile contents blocks graph_file a Then =
    (RefusedWith (fault.Read None) a × ReadFails [] graph_file.name a.read)
    ⊎ (((f : GraphFault) × RefusedWith (fault.Graph f) a × OfBytes (contents graph_file.name) (λ bytes. graph_by blocks graph_file bytes ≡ Err f))
    ⊎ GraphWith contents blocks graph_file Then)

-- cycles: these actors are a cycle that takes no time; or there is none
abbrev pub AfterCycles : Graph → Answer → Type 0 → Type 0
AfterCycles g a Then = ((actors : List ℕ) × RefusedWith (fault.Cycle actors) a × IsFreeCycle g actors) ⊎ (NoFreeCycle g × Then)

-- offsets: this sender is the first that can't send in time; or all senders can
abbrev pub AfterOffsets : Graph → Answer → Type 0 → Type 0
AfterOffsets g a Then =
    ((send : ℕ) × (offset : ℤ) × (slack : ℕ) × RefusedWith (fault.Infeasible send offset slack) a × IsFirstInfeasible g send offset slack)
    ⊎ (IsFeasible g × Then)

-- the sensors' files, in order: this sensor is the first without rows, since its file could not be read, or has a fault, or has a
-- row that is late where late rows are refused; or all sensors have rows. `others` were asked for before
abbrev pub AfterRows : LateRows → Contents → Graph → List (List ℕ) → Answer → ((ℕ → List Row) → Type 0) → Type 0
AfterRows late contents g others a Then =
    ((actor : ℕ) × RefusedWith (fault.Read (Some actor)) a × SensorUnread late contents g actor others a.read)
    ⊎ (((actor : ℕ) × (f : RowFault) × RefusedWith (fault.Sensor actor f) a × SensorFails late contents g actor f)
    ⊎ (((actor : ℕ) × (row : ℕ) × (seen : ℕ) × (limit : ℕ) × RefusedWith (fault.LateRow actor row seen limit) a × (late ≡ Refused) × SensorLate contents g actor row seen limit)
    ⊎ ((rows : ℕ → List Row) × AreRows contents g rows × AllPass late g rows × Then rows)))

-- the recording: it could not be read; or its text has a fault; or the call goes on. `others` and files of sensors were asked for
-- before
abbrev pub AfterAir : List ℕ → Contents → Graph → List (List ℕ) → Answer → Type 0 → Type 0
AfterAir air contents g others a Then =
    (RefusedWith fault.ReadAir a × LastFails g others air a.read)
    ⊎ (((f : AirFault) × RefusedWith (fault.Air f) a × OfBytes (contents air) (λ bytes. air_of g bytes ≡ Err f))
    ⊎ Then)

-- a fact of an admitted plan of the graph
abbrev pub WithPlan : Graph → (Parts → Type 0) → Type 0
WithPlan g Fact = (plan : Parts) × (plan.graph ≡ g) × IsAdmitted plan × Fact plan

-- what a run must have to be admitted: no free cycle, no late sender, rows none of which is late; then a fact of its plan and of
-- its rows up to the horizon
abbrev pub AfterAdmission : Contents → Graph → List (List ℕ) → Answer → (Parts → (ℕ → List Row) → Type 0) → Type 0
AfterAdmission contents g others a Then =
    AfterCycles g a (AfterOffsets g a (AfterRows Refused contents g others a (λ rows. WithPlan g (λ plan. Then plan (of_run g rows)))))

-- The last stage of each command.

-- a run: all was written, or a write failed, or a platform stopped it
pub record HasRunBy (workers : ℕ) (clock : ClockChoice) (log : Bool) (a : Answer) (plan : Parts) (rows : ℕ → List Row) : Type 0 where
  pub ran : has_run a.fault ≡ true
  pub leaves : LeavesRun (run_clocks workers clock a.left) log a.fault a.left a.wrote plan rows
  pub failed : a.fault ≡ Some fault.Write → Rose a.wrote.before a.wrote.now
  -- what more is known of a paced run
  pub paced : clock ≡ Paced → IsPacedOutcome plan (level_of plan.ranks) rows a.left.platforms (stop_of a.fault)

-- `meaning`: it has too many firings, or its tables are put
abbrev pub IsMeantBy : Graph → (ℕ → List Row) → Answer → Type 0
IsMeantBy g rows a = (RefusedWith (fault.Long None) a × IsTooLongForAll g rows) ⊎ (OnlyPuts a (IsTables g rows (FitOnAll g)))

-- `slacks`: whatever the slacks of these senders, one of them can't send in time; or the least slacks are put
abbrev pub IsSlackedBy : Graph → Answer → Type 0
IsSlackedBy g a = ((sends : List ℕ) × (gain : ℕ) × RefusedWith (fault.Ring sends gain) a × IsRing g sends gain) ⊎ (OnlyPuts a (IsSlacked g))

-- `audit`: the log could not be read; or this verdict refuses it; or it is lawful, and `lawful` is put
abbrev pub IsJudgedBy : List ℕ → Contents → Graph → List (List ℕ) → Answer → Parts → (ℕ → List Row) → Type 0
IsJudgedBy log contents g others a plan rows =
    (RefusedWith fault.ReadLog a × LastFails g others log a.read)
    ⊎ (((v : Verdict) × RefusedWith (fault.Unlawful v) a × OfBytes (contents log) (λ bytes. IsUnlawful plan rows bytes v))
    ⊎ (OfBytes (contents log) (Accepts plan rows) × OnlyPuts a (λ text. text ≡ lawful_line)))

-- a replay that ran: all was written, or a write failed, or a platform stopped it
pub record HasReplayedBy (air : List ℕ) (log : Bool) (contents : Contents) (a : Answer) (plan : Parts) (rows : ℕ → List Row) : Type 0 where
  pub ran : has_replayed a.fault ≡ true
  pub leaves : OnAir contents air (LeavesReplay log a.fault a.left a.wrote) plan rows
  pub failed : a.fault ≡ Some fault.Write → Rose a.wrote.before a.wrote.now

-- `replay`: the recording, and then the run
abbrev pub IsReplayedBy : List ℕ → Bool → Contents → Graph → List (List ℕ) → Answer → Parts → (ℕ → List Row) → Type 0
IsReplayedBy air log contents g others a plan rows = AfterAir air contents g others a (HasReplayedBy air log contents a plan rows)

-- the stages of each command over a graph; `others` were asked for before the sensors' files
abbrev pub IsDueFor : Command → Contents → Graph → List (List ℕ) → Answer → Type 0
IsDueFor (Run workers clock log) contents g others a = AfterAdmission contents g others a (HasRunBy workers clock log a)
IsDueFor Check contents g others a = AfterCycles g a (AfterOffsets g a (OnlyPuts a (IsChecked g)))
IsDueFor Meaning contents g others a = AfterCycles g a (AfterRows Taken contents g others a (λ rows. IsMeantBy g rows a))
IsDueFor Slacks contents g others a = AfterCycles g a (IsSlackedBy g a)

-- the stages of an audit over a graph, and of a replay
abbrev pub IsAudited : List ℕ → Contents → Graph → List (List ℕ) → Answer → Type 0
IsAudited log contents g others a = AfterAdmission contents g others a (IsJudgedBy log contents g others a)

abbrev pub IsReplayed : List ℕ → Bool → Contents → Graph → List (List ℕ) → Answer → Type 0
IsReplayed air log contents g others a = AfterAdmission contents g others a (IsReplayedBy air log contents g others a)

-- the stages of each order: `make` reads no file, and `migrate` writes any graph that its file defines
abbrev pub IsDueTo : Order → Contents → List Named → Answer → Type 0
IsDueTo (over command graph_file) contents blocks a = AfterFile contents blocks graph_file a (λ g. IsDueFor command contents g (graph_file.name ∷ []) a)
IsDueTo (make number workers) contents blocks a = (a.left.misses ≡ []) × PutsText a (IsMadeRun number a.left.platforms)
IsDueTo (migrate graph_file) contents blocks a = AfterFile contents blocks graph_file a (λ g. OnlyPuts a (IsMigrated g blocks))
IsDueTo (audit graph_file log) contents blocks a = AfterFile contents blocks graph_file a (λ g. IsAudited log contents g (graph_file.name ∷ []) a)
IsDueTo (replay graph_file air workers log) contents blocks a = AfterFile contents blocks graph_file a (λ g. IsReplayed air log contents g (graph_file.name ∷ []) a)

-- how a call ends: memory ran out; or the words are not a valid command line; or as is due
abbrev pub IsDue : Option Order → Contents → List Named → Answer → Type 0
IsDue None contents blocks a = UnlessMemory a (RefusedWith fault.Usage)
IsDue (Some order) contents blocks a = UnlessMemory a (IsDueTo order contents blocks)
