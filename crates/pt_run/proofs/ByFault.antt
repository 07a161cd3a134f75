-- How a call ends, by its fault: what the stages of `IsDue` come to for each fault (`DueEnds`).
use Rattle.std.specs.Prelude.{◌≡◌, ℕ, Bool, true, false, List, [], ◌∷◌, Option, Some, None, Err}
use Rattle.pt_io.specs.Causes.{Appends, AppendsPart, Rose}
use Rattle.pt_types.specs.declared.graph.Graph.{Graph}
use Rattle.pt_types.specs.declared.rows.Row.{Row}
use Rattle.pt_blocks.specs.declared.blocks.Named.{Named}
use Rattle.pt_history.specs.declared.miss.Miss.{Miss}
use Rattle.pt_semantics.specs.Cycles.{NoFreeCycle}
use Rattle.pt_semantics.specs.Offsets.{IsFeasible}
use Rattle.pt_causality.specs.Ranked.{IsFreeCycle}
use Rattle.pt_offsets.specs.Margins.{IsFirstInfeasible}
use Rattle.pt_offsets.specs.Plans.{Parts}
use Rattle.pt_slacks.specs.Rings.{IsRing}
use Rattle.pt_slacks.specs.Text.{IsSlacked}
use Rattle.pt_sensor_files.specs.declared.recorded_fault.LateRows.TheVariants.{Refused, Taken}
use Rattle.pt_sensor_files.specs.Asked.{ReadFails}
use Rattle.pt_io.specs.Calls.{Contents, SourceCall, SinkCall}
use Rattle.pt_sensor_files.specs.Recorded.{AreRows, SensorFails, SensorLate, SensorUnread}
use Rattle.pt_turn.specs.declared.fault.TurnFault.{TurnFault}
use Rattle.pt_turn.specs.declared.fault.TurnFault.TheVariants as turn
use Rattle.pt_words.specs.declared.orders.ClockChoice.{ClockChoice}
use Rattle.pt_air.specs.AirOf.{air_of}
use Rattle.pt_run.specs.declared.fault.Fault.{Fault}
use Rattle.pt_run.specs.declared.fault.Fault.TheVariants as fault
use Rattle.pt_words.specs.declared.orders.Command.{Command}
use Rattle.pt_words.specs.declared.orders.Command.TheVariants.{Run, Check, Meaning, Slacks}
use Rattle.pt_run.specs.Auditing.{Accepts, IsUnlawful, LastFails, OnLog, lawful_line}
use Rattle.pt_run.specs.Causes.{IsTooLongForAll}
use Rattle.pt_run.specs.Leaving.{RunWith}
use Rattle.pt_run.specs.Making.{IsMadeRun}
use Rattle.pt_run.specs.Migrating.{IsMigrated}
use Rattle.pt_run.specs.Replaying.{LeavesReplay, OnAir}
use Rattle.pt_run.specs.Runs.{IsOutcomeOver}
use Rattle.pt_words.specs.Grammar.{GraphFile, Order, over, make, migrate, audit, replay}
use Rattle.pt_run.specs.Reporting.{paced_run}
use Rattle.pt_run.specs.Written.{FitOnAll, GraphWith, HasNothing, IsChecked, IsRun, IsTables, Leaves, run_clocks}
use Rattle.pt_run.specs.GraphFiles.{graph_by}
use Rattle.pt_sensor_files.specs.Bytes.{OfBytes}

-- the meaning of the graph and its sensors' rows is too long
pub record MeansLong (contents : Contents) (g : Graph) : Type 0 where
  pub rows : ℕ → List Row
  pub sensors : AreRows contents g rows
  pub longer : IsTooLongForAll g rows

-- what `meaning` must write for this graph: the tables of its meaning, whatever the bounds of its sensors
pub record IsMeant (contents : Contents) (g : Graph) (text : List ℕ) : Type 0 where
  pub rows : ℕ → List Row
  pub sensors : AreRows contents g rows
  pub tables : IsTables g rows (FitOnAll g) text

-- what a command must write for a graph without a free cycle, and what it leaves
abbrev pub WritesText : Command → Contents → Graph → Leaves → List ℕ → Type 0
WritesText (Run workers clock log) contents g left text = IsRun contents g workers clock log left text
WritesText Check contents g left text = HasNothing left × IsChecked g text
WritesText Meaning contents g left text = HasNothing left × IsMeant contents g text
WritesText Slacks contents g left text = HasNothing left × IsSlacked g text

-- what a command must write for a graph, which has no free cycle, and what it leaves
abbrev pub Writes : Command → Contents → Graph → Leaves → List ℕ → Type 0
Writes command contents g left text = NoFreeCycle g × WritesText command contents g left text

-- what a command must write for the graph file with this name, and what it leaves
abbrev pub WritesOver : Command → Contents → List Named → GraphFile → Leaves → List ℕ → Type 0
WritesOver command contents blocks graph_file left text = GraphWith contents blocks graph_file (λ g. Writes command contents g left text)

-- the bytes written, if known, grew by such a text
abbrev pub Wrote : Command → Contents → List Named → GraphFile → Leaves → Option (List ℕ) → Option (List ℕ) → Type 0
Wrote command contents blocks graph_file left before now = (text : List ℕ) × WritesOver command contents blocks graph_file left text × Appends before now text

-- the bytes written, if known, grew by a prefix of such a text, and no misses are given
abbrev pub WrotePart : Command → Contents → List Named → GraphFile → Leaves → Option (List ℕ) → Option (List ℕ) → Type 0
WrotePart command contents blocks graph_file left before now =
    (left.misses ≡ []) × (misses : List Miss) × (text : List ℕ) × WritesOver command contents blocks graph_file (record left { misses = misses }) text × AppendsPart before now text

-- a run over the rows of the sensors' files ended with this fault of this platform, and it leaves all platforms as they were
-- then
pub record RunStops (contents : Contents) (g : Graph) (workers : ℕ) (clock : ClockChoice) (left : Leaves) (platform : ℕ) (fault : TurnFault) : Type 0 where
  pub plan : Parts
  pub graph : plan.graph ≡ g
  pub run : IsOutcomeOver contents (run_clocks workers clock left) plan left.platforms (Some (platform, fault))
  pub no_misses : left.misses ≡ []

-- the rows of a graph's sensors are not available, though each sender can send in time, and nothing is left
abbrev pub RowsFail : Graph → Leaves → Type 0 → Type 0
RowsFail g left Fails = IsFeasible g × Fails × HasNothing left

-- why a run of a graph without a free cycle gave no text; `others` were asked for before the sensors' files
abbrev pub CauseOfRun : ℕ → ClockChoice → Fault → Leaves → Contents → Graph → List (List ℕ) → SourceCall → Type 0
CauseOfRun workers clock (fault.Infeasible send offset slack) left contents g others r = IsFirstInfeasible g send offset slack × HasNothing left
CauseOfRun workers clock (fault.Read (Some actor)) left contents g others r = RowsFail g left (SensorUnread Refused contents g actor others r)
CauseOfRun workers clock (fault.Sensor actor f) left contents g others r = RowsFail g left (SensorFails Refused contents g actor f)
CauseOfRun workers clock (fault.LateRow actor row seen limit) left contents g others r = RowsFail g left (SensorLate contents g actor row seen limit)
CauseOfRun workers clock (fault.LateMessage platform actor tag reading limit) left contents g others r = RunStops contents g workers clock left platform (turn.Late actor tag reading limit)
CauseOfRun workers clock (fault.Long (Some platform)) left contents g others r = RunStops contents g workers clock left platform turn.Long
CauseOfRun workers clock _ left contents g others r = ⊥

-- why `check` gave no text for a graph without a free cycle
abbrev pub CauseOfCheck : Fault → Graph → Type 0
CauseOfCheck (fault.Infeasible send offset slack) g = IsFirstInfeasible g send offset slack
CauseOfCheck _ g = ⊥

-- why `meaning` gave no text for a graph without a free cycle
abbrev pub CauseOfMeaning : Fault → Contents → Graph → List (List ℕ) → SourceCall → Type 0
CauseOfMeaning (fault.Read (Some actor)) contents g others r = SensorUnread Taken contents g actor others r
CauseOfMeaning (fault.Sensor actor f) contents g others r = SensorFails Taken contents g actor f
CauseOfMeaning (fault.Long None) contents g others r = MeansLong contents g
CauseOfMeaning _ contents g others r = ⊥

-- why `slacks` gave no text for a graph without a free cycle
abbrev pub CauseOfNoSlacks : Fault → Graph → Type 0
CauseOfNoSlacks (fault.Ring sends gain) g = IsRing g sends gain
CauseOfNoSlacks _ g = ⊥

-- why a command gave no text for a graph without a free cycle
abbrev pub CauseOfText : Command → Fault → Leaves → Contents → Graph → List (List ℕ) → SourceCall → Type 0
CauseOfText (Run workers clock log) f left contents g others r = CauseOfRun workers clock f left contents g others r
CauseOfText Check f left contents g others r = CauseOfCheck f g × HasNothing left
CauseOfText Meaning f left contents g others r = CauseOfMeaning f contents g others r × HasNothing left
CauseOfText Slacks f left contents g others r = CauseOfNoSlacks f g × HasNothing left

-- why a command gave no text for a graph: a cycle that takes no time comes before all other causes
abbrev pub CauseOf : Command → Fault → Leaves → Contents → Graph → List (List ℕ) → SourceCall → Type 0
CauseOf command (fault.Cycle actors) left contents g others r = IsFreeCycle g actors × HasNothing left
CauseOf command fault.Memory left contents g others r = HasNothing left
CauseOf command f left contents g others r = NoFreeCycle g × CauseOfText command f left contents g others r

-- why the graph file with this name gave no graph
abbrev pub CauseOfGraph : Fault → Contents → List Named → GraphFile → SourceCall → Type 0
CauseOfGraph (fault.Graph f) contents blocks graph_file r = OfBytes (contents graph_file.name) (λ bytes. graph_by blocks graph_file bytes ≡ Err f)
CauseOfGraph (fault.Read None) contents blocks graph_file r = ReadFails [] graph_file.name r
CauseOfGraph fault.Memory contents blocks graph_file r = Unit {0}
CauseOfGraph _ contents blocks graph_file r = ⊥

-- why a command on a graph file ended with a fault, and what it leaves: a failed write leaves a prefix of what the command
-- must write, and every other fault writes nothing
abbrev pub IsCause : Fault → Leaves → Command → Contents → List Named → GraphFile → SourceCall → SinkCall → Type 0
IsCause fault.Usage left command contents blocks graph_file r w = ⊥
IsCause (fault.Graph f) left command contents blocks graph_file r w = CauseOfGraph (fault.Graph f) contents blocks graph_file r × HasNothing left × (w.written_now ≡ w.written_before)
IsCause (fault.Read None) left command contents blocks graph_file r w = CauseOfGraph (fault.Read None) contents blocks graph_file r × HasNothing left × (w.written_now ≡ w.written_before)
IsCause fault.Write left command contents blocks graph_file r w = Rose w.before w.now × WrotePart command contents blocks graph_file left w.written_before w.written_now
IsCause fault.Memory left command contents blocks graph_file r w = HasNothing left × (w.written_now ≡ w.written_before)
IsCause f left command contents blocks graph_file r w = GraphWith contents blocks graph_file (λ g. CauseOf command f left contents g (graph_file.name ∷ []) r) × (w.written_now ≡ w.written_before)

-- how a call ends: out of memory; if the words are not a valid command line, with the usage; else with what the command must
-- write, or with a fault that has its cause
abbrev pub EndsBy : Option Fault → Leaves → Option (Command × GraphFile) → Contents → List Named → SourceCall → SinkCall → Type 0
EndsBy (Some fault.Memory) left order contents blocks r w = HasNothing left × (w.written_now ≡ w.written_before)
EndsBy outcome left None contents blocks r w = (outcome ≡ Some fault.Usage) × HasNothing left × (w.written_now ≡ w.written_before)
EndsBy None left (Some order) contents blocks r w = Wrote order.0 contents blocks order.1 left w.written_before w.written_now
EndsBy (Some f) left (Some order) contents blocks r w = IsCause f left order.0 contents blocks order.1 r w

-- such a text of the graph in the file with this name was put, all of it or a part
abbrev pub PutsMigrated : Contents → List Named → GraphFile → (List ℕ → Type 0) → Type 0
PutsMigrated contents blocks graph_file Put = GraphWith contents blocks graph_file (λ g. (text : List ℕ) × IsMigrated g blocks text × Put text)

-- how the command ends: the text is written, a write fails after a prefix of it, or the graph file gives no graph or memory
-- runs out, and then nothing is written. No other cause is looked at, so a graph that can't run is written as it is
abbrev pub EndsMigrated : Option Fault → Leaves → GraphFile → Contents → List Named → SourceCall → SinkCall → Type 0
EndsMigrated None left graph_file contents blocks r w = HasNothing left × PutsMigrated contents blocks graph_file (Appends w.written_before w.written_now)
EndsMigrated (Some fault.Write) left graph_file contents blocks r w = HasNothing left × Rose w.before w.now × PutsMigrated contents blocks graph_file (AppendsPart w.written_before w.written_now)
EndsMigrated (Some f) left graph_file contents blocks r w = HasNothing left × CauseOfGraph f contents blocks graph_file r × (w.written_now ≡ w.written_before)

-- a fault that comes before the last file is read
abbrev pub is_before_last : Fault → Bool
is_before_last (fault.Graph f) = true
is_before_last (fault.Cycle actors) = true
is_before_last (fault.Infeasible send offset slack) = true
is_before_last (fault.Read sensor) = true
is_before_last (fault.Sensor actor f) = true
is_before_last (fault.LateRow actor row seen limit) = true
is_before_last _ = false

-- how the command ends: with the line `lawful` for a lawful log, of which a prefix is there if a write fails; with the verdict on
-- any other log; or with no log. The graph file then defines an admitted graph, and its sensors' files have rows, none of which is
-- late. It ends with any other fault as a paced run ends with it, before the log is read, unless memory runs out. Nothing is left
abbrev pub EndsAudit : Option Fault → Leaves → GraphFile → List ℕ → Contents → List Named → SourceCall → SinkCall → Type 0
EndsAudit None left graph_file log contents blocks r w = HasNothing left × RunWith contents blocks graph_file (OnLog contents log Accepts) × Appends w.written_before w.written_now lawful_line
EndsAudit (Some fault.Write) left graph_file log contents blocks r w =
    HasNothing left × RunWith contents blocks graph_file (OnLog contents log Accepts) × Rose w.before w.now × AppendsPart w.written_before w.written_now lawful_line
EndsAudit (Some (fault.Unlawful v)) left graph_file log contents blocks r w =
    HasNothing left × RunWith contents blocks graph_file (OnLog contents log (λ plan rows bytes. IsUnlawful plan rows bytes v)) × (w.written_now ≡ w.written_before)
EndsAudit (Some fault.ReadLog) left graph_file log contents blocks r w =
    HasNothing left × RunWith contents blocks graph_file (λ plan rows. LastFails plan.graph (graph_file.name ∷ []) log r) × (w.written_now ≡ w.written_before)
EndsAudit (Some fault.Memory) left graph_file log contents blocks r w = HasNothing left × (w.written_now ≡ w.written_before)
EndsAudit (Some f) left graph_file log contents blocks r w = (is_before_last f ≡ true) × HasNothing left × IsCause f left paced_run contents blocks graph_file r w

-- how a replay ends, for an admitted plan of its graph and rows of its sensors, none of which is late (`With`): the platforms ran,
-- with the lags and transits that the file `air` says; or that file has a fault, or could not be read, and nothing is left. It ends
-- with any other fault as a paced run ends with it (`Other`), before that file is read, unless memory runs out
abbrev pub EndsInAir : ((Parts → (ℕ → List Row) → Type 0) → Type 0) → (Fault → Type 0) → List (List ℕ) → Option Fault → Leaves → List ℕ → Bool → Contents → SourceCall → SinkCall → Type 0
EndsInAir With Other others None left air log contents r w = With (OnAir contents air (LeavesReplay log None left w))
EndsInAir With Other others (Some fault.Write) left air log contents r w = Rose w.before w.now × With (OnAir contents air (LeavesReplay log (Some fault.Write) left w))
EndsInAir With Other others (Some (fault.Long (Some platform))) left air log contents r w = With (OnAir contents air (LeavesReplay log (Some (fault.Long (Some platform))) left w))
EndsInAir With Other others (Some (fault.LateAir platform actor tag reading limit row)) left air log contents r w = With (OnAir contents air (LeavesReplay log (Some (fault.LateAir platform actor tag reading limit row)) left w))
EndsInAir With Other others (Some (fault.Air f)) left air log contents r w = HasNothing left × With (λ plan rows. OfBytes (contents air) (λ bytes. air_of plan.graph bytes ≡ Err f)) × (w.written_now ≡ w.written_before)
EndsInAir With Other others (Some fault.ReadAir) left air log contents r w = HasNothing left × With (λ plan rows. LastFails plan.graph others air r) × (w.written_now ≡ w.written_before)
EndsInAir With Other others (Some fault.Memory) left air log contents r w = HasNothing left × (w.written_now ≡ w.written_before)
EndsInAir With Other others (Some f) left air log contents r w = (is_before_last f ≡ true) × HasNothing left × Other f

-- how a replay over the graph file with this name ends
abbrev pub EndsReplay : Option Fault → Leaves → GraphFile → List ℕ → Bool → Contents → List Named → SourceCall → SinkCall → Type 0
EndsReplay outcome left graph_file air log contents blocks r w = EndsInAir (RunWith contents blocks graph_file) (λ f. IsCause f left paced_run contents blocks graph_file r w) (graph_file.name ∷ []) outcome left air log contents r w

-- how such a run ends: its text is written, a write fails after a prefix of it, or memory runs out
abbrev pub EndsMade : Option Fault → Leaves → ℕ → SinkCall → Type 0
EndsMade None left n w = (left.misses ≡ []) × (text : List ℕ) × IsMadeRun n left.platforms text × Appends w.written_before w.written_now text
EndsMade (Some fault.Write) left n w = Rose w.before w.now × (left.misses ≡ []) × (text : List ℕ) × IsMadeRun n left.platforms text × AppendsPart w.written_before w.written_now text
EndsMade (Some fault.Memory) left n w = HasNothing left × (w.written_now ≡ w.written_before)
EndsMade (Some f) left n w = ⊥

-- how a call ends, by what the words ask for
abbrev pub Ends : Option Fault → Leaves → Option Order → Contents → List Named → SourceCall → SinkCall → Type 0
Ends outcome left None contents blocks r w = EndsBy outcome left None contents blocks r w
Ends outcome left (Some (over command graph)) contents blocks r w = EndsBy outcome left (Some (command, graph)) contents blocks r w
Ends outcome left (Some (make number workers)) contents blocks r w = EndsMade outcome left number w
Ends outcome left (Some (migrate graph)) contents blocks r w = EndsMigrated outcome left graph contents blocks r w
Ends outcome left (Some (audit graph log)) contents blocks r w = EndsAudit outcome left graph log contents blocks r w
Ends outcome left (Some (replay graph air workers log)) contents blocks r w = EndsReplay outcome left graph air log contents blocks r w
