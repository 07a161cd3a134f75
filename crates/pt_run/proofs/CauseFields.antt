-- The table of causes: for each answer, why it came. The order matters: of a graph, an answer further down has none of the
-- causes before it.
use Rattle.std.specs.Prelude.{◌≡◌, ◌≢◌, ◌↔◌, ℕ, ℤ, List, [], ◌∷◌, Option, Some, None, Err, flat_map}
use Rattle.pt_io.specs.Causes.{Rose}
use Rattle.pt_types.specs.declared.graph.Graph.{Graph}
use Rattle.pt_audit.specs.declared.verdict.Verdict.{Verdict}
use Rattle.pt_blocks.specs.declared.blocks.Named.{Named}
use Rattle.pt_graph_text.specs.declared.fault.GraphFault.{GraphFault}
use Rattle.pt_causality.specs.Ranked.{IsFreeCycle}
use Rattle.pt_offsets.specs.Margins.{IsFirstInfeasible}
use Rattle.pt_sensors.specs.declared.fault.RowFault.{RowFault}
use Rattle.pt_semantics.specs.Cycles.{NoFreeCycle}
use Rattle.pt_semantics.specs.Offsets.{IsFeasible}
use Rattle.pt_monitors.specs.Platforms.{missed_by}
use Rattle.pt_slacks.specs.Rings.{IsRing}
use Rattle.pt_sensor_files.specs.declared.recorded_fault.LateRows.{LateRows}
use Rattle.pt_sensor_files.specs.declared.recorded_fault.LateRows.TheVariants.{Refused, Taken}
use Rattle.pt_sensor_files.specs.Asked.{ReadFails}
use Rattle.pt_io.specs.Calls.{Contents, SourceCall, SinkCall}
use Rattle.pt_sensor_files.specs.Recorded.{SensorFails, SensorLate, SensorUnread}
use Rattle.pt_tags.specs.declared.tag.Tag.{Tag}
use Rattle.pt_turn.specs.Platforms.{state_at}
use Rattle.pt_turn.specs.Running.{ShowsLate, ShowsLong}
use Rattle.pt_words.specs.declared.orders.ClockChoice.TheVariants.{Paced}
use Rattle.pt_run.specs.declared.fault.Fault.{Fault}
use Rattle.pt_run.specs.declared.fault.Fault.TheVariants as fault
use Rattle.pt_words.specs.declared.orders.Command.{Command}
use Rattle.pt_words.specs.declared.orders.Command.TheVariants.{Run, Check, Meaning, Slacks}
use Rattle.pt_run.specs.Auditing.{Accepts, IsUnlawful, LastFails, OnLog}
use Rattle.pt_air.specs.declared.fault.AirFault.{AirFault}
use Rattle.pt_air.specs.AirOf.{air_of}
use Rattle.pt_run.specs.Leaving.{RunWith}
use Rattle.pt_run.specs.Replaying.{OnAir}
use Rattle.pt_words.specs.Grammar.{GraphFile, Order, over, make, migrate, audit, replay}
use Rattle.pt_run.specs.Reporting.{paced_run}
use Rattle.pt_run.specs.Complete.{OnPlatform}
use Rattle.pt_run.specs.Written.{GraphWith, Leaves}
use Rattle.pt_run.proofs.ByFault.{MeansLong}
use Rattle.pt_run.specs.GraphFiles.{graph_by}
use Rattle.pt_sensor_files.specs.Bytes.{OfBytes}

-- the words are a command on a graph file, `migrate`, `audit` and `replay` included, and a fact holds of the file's name
abbrev pub OverFile : Option Order → (GraphFile → Type 0) → Type 0
OverFile None Fact = ⊥
OverFile (Some (make number workers)) Fact = ⊥
OverFile (Some (migrate graph_file)) Fact = Fact graph_file
OverFile (Some (audit graph_file log)) Fact = Fact graph_file
OverFile (Some (replay graph_file air workers log)) Fact = Fact graph_file
OverFile (Some (over command graph_file)) Fact = Fact graph_file

-- they are a command that needs more of the graph than its text, and a fact holds of the command, the file's name and the graph
-- that the file defines. An audit and a replay refuse what a paced run refuses, so a fact of them is one of such a run
abbrev pub OverGraph : Option Order → Contents → List Named → (Command → GraphFile → Graph → Type 0) → Type 0
OverGraph None contents blocks Fact = ⊥
OverGraph (Some (make number workers)) contents blocks Fact = ⊥
OverGraph (Some (migrate graph_file)) contents blocks Fact = ⊥
OverGraph (Some (over command graph_file)) contents blocks Fact = GraphWith contents blocks graph_file (Fact command graph_file)
OverGraph (Some (audit graph_file log)) contents blocks Fact = GraphWith contents blocks graph_file (Fact paced_run graph_file)
OverGraph (Some (replay graph_file air workers log)) contents blocks Fact = GraphWith contents blocks graph_file (Fact paced_run graph_file)

-- they are an audit, and a fact holds of the names of the graph file and of the log
abbrev pub OverLog : Option Order → (GraphFile → List ℕ → Type 0) → Type 0
OverLog (Some (audit graph_file log)) Fact = Fact graph_file log
OverLog _ Fact = ⊥

-- they are a replay, and a fact holds of the names of the graph file and of the recording
abbrev pub OverAir : Option Order → (GraphFile → List ℕ → Type 0) → Type 0
OverAir (Some (replay graph_file air workers log)) Fact = Fact graph_file air
OverAir _ Fact = ⊥

-- a run, by whatever clock
abbrev pub IsRunCommand : Command → Type 0
IsRunCommand (Run workers clock log) = Unit {0}
IsRunCommand _ = ⊥

-- `run` and `check`, which refuse a sender that can't send in time; `meaning` and `slacks` accept it
abbrev pub AsksFeasible : Command → Type 0
AsksFeasible (Run workers clock log) = Unit {0}
AsksFeasible Check = Unit {0}
AsksFeasible Meaning = ⊥
AsksFeasible Slacks = ⊥

-- nothing refuses the graph before its sensors' files are read
abbrev pub IsAccepted : Command → Graph → Type 0
IsAccepted command g = NoFreeCycle g × (AsksFeasible command → IsFeasible g)

-- a run by a clock of its own, and not by the paced one
abbrev pub IsNotPaced : Command → Type 0
IsNotPaced (Run workers clock log) = clock ≢ Paced
IsNotPaced _ = ⊥

-- a command that reads the sensors' files: `run`, which refuses late rows, or `meaning`, which accepts them
abbrev pub OfRows : Command → (LateRows → Type 0) → Type 0
OfRows (Run workers clock log) Fact = Fact Refused
OfRows Meaning Fact = Fact Taken
OfRows Check Fact = ⊥
OfRows Slacks Fact = ⊥

-- the table, for one call
pub record CauseTable (status : ℕ) (outcome : Option Fault) (left : Leaves) (order : Option Order) (contents : Contents) (blocks : List Named) (r : SourceCall) (w : SinkCall) : Type 0 where
  -- the words are not a valid command line
  pub usage : outcome ≡ Some fault.Usage → order ≡ None
  -- the graph file could not be read, its text has that fault, or those actors are a cycle that takes no time
  pub graph_unread : outcome ≡ Some (fault.Read None) → OverFile order (λ graph_file. ReadFails [] graph_file.name r)
  pub graph : (f : GraphFault) → outcome ≡ Some (fault.Graph f) → OverFile order (λ graph_file. OfBytes (contents graph_file.name) (λ bytes. graph_by blocks graph_file bytes ≡ Err f))
  pub cycle : (actors : List ℕ) → outcome ≡ Some (fault.Cycle actors) → OverGraph order contents blocks (λ command graph_file g. IsFreeCycle g actors)
  -- that sender is the first that can't send in time, and the command refuses it
  pub infeasible : (send : ℕ) (offset : ℤ) (slack : ℕ) → outcome ≡ Some (fault.Infeasible send offset slack) → OverGraph order contents blocks (λ command graph_file g. AsksFeasible command × NoFreeCycle g × IsFirstInfeasible g send offset slack)
  -- whatever the slacks of these senders, one of them can't send in time
  pub ring : (sends : List ℕ) (gain : ℕ) → outcome ≡ Some (fault.Ring sends gain) → OverGraph order contents blocks (λ command graph_file g. (command ≡ Slacks) × NoFreeCycle g × IsRing g sends gain)
  -- that sensor is the first without rows: its file could not be read, the file has that fault, or that row is late
  pub sensor_unread : (actor : ℕ) → outcome ≡ Some (fault.Read (Some actor)) → OverGraph order contents blocks (λ command graph_file g. IsAccepted command g × OfRows command (λ late. SensorUnread late contents g actor (graph_file.name ∷ []) r))
  pub sensor : (actor : ℕ) (f : RowFault) → outcome ≡ Some (fault.Sensor actor f) → OverGraph order contents blocks (λ command graph_file g. IsAccepted command g × OfRows command (λ late. SensorFails late contents g actor f))
  pub late_row : (actor row seen limit : ℕ) → outcome ≡ Some (fault.LateRow actor row seen limit) → OverGraph order contents blocks (λ command graph_file g. IsRunCommand command × IsAccepted command g × SensorLate contents g actor row seen limit)
  -- the recorded turns of that platform end with that late message, which no paced run meets; or they made all claims that a
  -- platform may make, and a unit is still safe; or the meaning is too long
  pub late_message : (platform actor : ℕ) (tag : Tag) (reading limit : ℕ) → outcome ≡ Some (fault.LateMessage platform actor tag reading limit) →
      OverGraph order contents blocks (λ command graph_file g. IsNotPaced command × IsAccepted command g × OnPlatform left g platform (λ v. ShowsLate g v.turns actor tag reading limit))
  pub long : (platform : ℕ) → outcome ≡ Some (fault.Long (Some platform)) → OverGraph order contents blocks (λ command graph_file g. IsRunCommand command × IsAccepted command g × OnPlatform left g platform (λ v. ShowsLong g (state_at v)))
  pub long_meaning : outcome ≡ Some (fault.Long None) → OverGraph order contents blocks (λ command graph_file g. (command ≡ Meaning) × NoFreeCycle g × MeansLong contents g)
  -- the log could not be read; or it is refused by that verdict and no other, and is no lawful log. If the audit of a log writes
  -- all, the log is lawful, and no verdict refuses it
  pub log_unread : outcome ≡ Some fault.ReadLog → OverLog order (λ graph_file log. RunWith contents blocks graph_file (λ plan rows. LastFails plan.graph (graph_file.name ∷ []) log r))
  pub unlawful : (v : Verdict) → outcome ≡ Some (fault.Unlawful v) → OverLog order (λ graph_file log. RunWith contents blocks graph_file (OnLog contents log (λ plan rows bytes. IsUnlawful plan rows bytes v)))
  pub lawful : (graph_file : GraphFile) (log : List ℕ) → order ≡ Some (audit graph_file log) → outcome ≡ None → RunWith contents blocks graph_file (OnLog contents log Accepts)
  -- the recording could not be read, or its text has that fault; or the recorded turns of that platform end with that late message,
  -- and that row of the recording is the first that breaks a stated bound
  pub air_unread : outcome ≡ Some fault.ReadAir → OverAir order (λ graph_file air. RunWith contents blocks graph_file (λ plan rows. LastFails plan.graph (graph_file.name ∷ []) air r))
  pub air : (f : AirFault) → outcome ≡ Some (fault.Air f) → OverAir order (λ graph_file air. RunWith contents blocks graph_file (λ plan rows. OfBytes (contents air) (λ bytes. air_of plan.graph bytes ≡ Err f)))
  pub late_air : (platform actor : ℕ) (tag : Tag) (reading limit row : ℕ) → outcome ≡ Some (fault.LateAir platform actor tag reading limit row) →
      OverAir order (λ graph_file air. RunWith contents blocks graph_file (OnAir contents air (λ plan rows recorded. (recorded.breach ≡ Some row) × OnPlatform left plan.graph platform (λ v. ShowsLate plan.graph v.turns actor tag reading limit))))
  -- the sink's count of faults rose; with any other fault nothing is written
  pub write : outcome ≡ Some fault.Write → Rose w.before w.now
  pub unwritten : (f : Fault) → outcome ≡ Some f → f ≢ fault.Write → w.written_now ≡ w.written_before
  -- everything is written, and something was missed; the misses given are those of the recorded turns
  pub missed : (status ≡ 5) ↔ ((outcome ≡ None) × (left.misses ≢ []))
  pub missed_are : outcome ≡ None → left.misses ≡ flat_map missed_by left.platforms
