-- Each cause that the words and the known files decide gives its answer: a field for each.
use Rattle.std.specs.Prelude.{◌≡◌, ◌⊎◌, ℕ, ℤ, Bool, List, Option, Some, None, Result, Ok, Err}
use Rattle.pt_audit.specs.LawfulLogs.{IsLawfulLog}
use Rattle.pt_audit.specs.declared.verdict.Verdict.{Verdict}
use Rattle.pt_types.specs.declared.graph.Graph.{Graph}
use Rattle.pt_types.specs.declared.rows.Row.{Row}
use Rattle.pt_types.specs.Lawful.{IsLawful}
use Rattle.pt_blocks.specs.declared.blocks.Named.{Named}
use Rattle.pt_graph_text.specs.declared.fault.GraphFault.{GraphFault}
use Rattle.pt_causality.specs.Ranked.{IsFreeCycle}
use Rattle.pt_offsets.specs.Margins.{IsFirstInfeasible}
use Rattle.pt_sensors.specs.declared.fault.RowFault.{RowFault}
use Rattle.pt_semantics.specs.Cycles.{NoFreeCycle}
use Rattle.pt_semantics.specs.Offsets.{IsFeasible}
use Rattle.pt_offsets.specs.Plans.{IsAdmitted, Parts}
use Rattle.pt_io.specs.Calls.{Contents}
use Rattle.pt_sensors.specs.Places.{of_run}
use Rattle.pt_sensor_files.specs.Recorded.{AreRows, SensorFails, SensorLate}
use Rattle.pt_slacks.specs.Rings.{IsRing}
use Rattle.pt_slacks.specs.Slacks.{Admits}
use Rattle.pt_run.specs.RunsAgreeing.{ReportsSensors}
use Rattle.pt_words.specs.declared.orders.ClockChoice.{ClockChoice}
use Rattle.pt_run.specs.declared.fault.Fault.{Fault}
use Rattle.pt_run.specs.declared.fault.Fault.TheVariants as fault
use Rattle.pt_words.specs.declared.orders.Command.{Command}
use Rattle.pt_words.specs.declared.orders.Command.TheVariants.{Run, Meaning, Slacks}
use Rattle.pt_run.specs.Causes.{IsTooLongForAll}
use Rattle.pt_run.proofs.CauseFields.{AsksFeasible, OfRows}
use Rattle.pt_air.specs.declared.fault.AirFault.{AirFault}
use Rattle.pt_air.specs.AirOf.{air_of}
use Rattle.pt_run.specs.Auditing.{Refuses}
use Rattle.pt_run.specs.Reporting.{paced_run}
use Rattle.pt_run.specs.Complete.{CanBegin}
use Rattle.pt_words.specs.Grammar.{GraphFile, Order, over, migrate, audit, replay}
use Rattle.pt_run.specs.GraphFiles.{graph_by}

-- memory ran out
abbrev pub WantsMemory : Option Fault → Type 0
WantsMemory outcome = outcome ≡ Some fault.Memory

-- memory ran out, or the graph file could not be read, though its content is known
abbrev pub WantsGraph : Option Fault → Type 0
WantsGraph outcome = WantsMemory outcome ⊎ (outcome ≡ Some (fault.Read None))

-- the same, or a sensor's file could not be read
abbrev pub WantsRows : Option Fault → Type 0
WantsRows outcome = WantsGraph outcome ⊎ ((actor : ℕ) × (outcome ≡ Some (fault.Read (Some actor))))

-- the same, or the log could not be read
abbrev pub WantsLog : Option Fault → Type 0
WantsLog outcome = WantsRows outcome ⊎ (outcome ≡ Some fault.ReadLog)

-- the same, or the recording could not be read
abbrev pub WantsAir : Option Fault → Type 0
WantsAir outcome = WantsRows outcome ⊎ (outcome ≡ Some fault.ReadAir)

-- the order by which a graph and the files of its sensors are refused
abbrev pub refused_as : Option Order → Option Order
refused_as (Some (audit graph log)) = Some (over paced_run graph)
refused_as (Some (replay graph air workers log)) = Some (over paced_run graph)
refused_as order = order

-- the words give this order for a graph file whose content is known, and it defines this graph or has this fault
pub record Defines (order : Option Order) (contents : Contents) (blocks : List Named) (order_for : GraphFile → Order) (defined : Result Graph GraphFault) : Type 0 where
  pub graph_file : GraphFile
  pub words : order ≡ Some (order_for graph_file)
  pub bytes : List ℕ
  pub reported : contents graph_file.name ≡ Some bytes
  pub defines : graph_by blocks graph_file bytes ≡ defined

-- the words are this command on a file that defines this graph, in which each cycle takes time; each sender can send in
-- time, if the command refuses others; and the contents of all sensors' files are known
pub record ReadsRows (order : Option Order) (contents : Contents) (blocks : List Named) (command : Command) (g : Graph) : Type 0 where
  pub graph : Defines (refused_as order) contents blocks (over command) (Ok g)
  pub no_free_cycle : NoFreeCycle g
  pub feasible : AsksFeasible command → IsFeasible g
  pub files : ReportsSensors contents g

-- the words are an audit of a log with this content, on a file that defines the graph of this admitted plan, and a run of it can
-- begin over these rows
pub record CanAudit (order : Option Order) (contents : Contents) (blocks : List Named) (plan : Parts) (rows : ℕ → List Row) (bytes : List ℕ) : Type 0 where
  pub graph_file : GraphFile
  pub log : List ℕ
  pub words : order ≡ Some (audit graph_file log)
  pub admitted : IsAdmitted plan
  pub begins : CanBegin contents blocks graph_file plan.graph
  pub over : rows ≡ of_run plan.graph begins.rows
  pub reported : contents log ≡ Some bytes

-- the words are a replay with a recording with this content, on a file that defines this graph, and a run of it can begin
pub record CanReadAir (order : Option Order) (contents : Contents) (blocks : List Named) (g : Graph) (bytes : List ℕ) : Type 0 where
  pub graph_file : GraphFile
  pub air : List ℕ
  pub workers : ℕ
  pub log : Bool
  pub words : order ≡ Some (replay graph_file air workers log)
  pub begins : CanBegin contents blocks graph_file g
  pub reported : contents air ≡ Some bytes

-- each cause that the words and the known files decide gives its answer
pub record ComesByCause (outcome : Option Fault) (order : Option Order) (contents : Contents) (blocks : List Named) : Type 0 where
  -- the words are not a valid command line
  pub usage : order ≡ None → (outcome ≡ Some fault.Usage) ⊎ WantsMemory outcome
  -- the graph's text has that fault, or some actors are a cycle that takes no time
  pub graph : (command : Command) (f : GraphFault) → Defines (refused_as order) contents blocks (over command) (Err f) → (outcome ≡ Some (fault.Graph f)) ⊎ WantsGraph outcome
  pub cycle : (command : Command) (g : Graph) → Defines (refused_as order) contents blocks (over command) (Ok g) → (NoFreeCycle g → ⊥) → ((actors : List ℕ) × IsFreeCycle g actors × (outcome ≡ Some (fault.Cycle actors))) ⊎ WantsGraph outcome
  -- that sender is the first that can't send in time, and the command refuses it
  pub infeasible : (command : Command) (g : Graph) (send : ℕ) (offset : ℤ) (slack : ℕ) → AsksFeasible command → Defines (refused_as order) contents blocks (over command) (Ok g) → NoFreeCycle g → IsFirstInfeasible g send offset slack →
      (outcome ≡ Some (fault.Infeasible send offset slack)) ⊎ WantsGraph outcome
  -- with no slacks can each sender send in time, so a ring is named; if with some they can, `slacks` writes the least, unless a
  -- write fails. The blocks are those of a `Blocks`
  pub ring : (g : Graph) → Defines order contents blocks (over Slacks) (Ok g) → NoFreeCycle g → ((slack : ℕ → ℕ) → Admits g slack → ⊥) → ((sends : List ℕ) × (gain : ℕ) × IsRing g sends gain × (outcome ≡ Some (fault.Ring sends gain))) ⊎ WantsGraph outcome
  pub slacked : (g : Graph) (slack : ℕ → ℕ) → IsLawful g → Defines order contents blocks (over Slacks) (Ok g) → NoFreeCycle g → Admits g slack → ((outcome ≡ None) ⊎ (outcome ≡ Some fault.Write)) ⊎ WantsGraph outcome
  -- that sensor is the first without rows: its file has that fault, or that row is late, which `meaning` accepts
  pub sensor : (command : Command) (g : Graph) (actor : ℕ) (f : RowFault) → ReadsRows order contents blocks command g → OfRows command (λ late. SensorFails late contents g actor f) → (outcome ≡ Some (fault.Sensor actor f)) ⊎ WantsRows outcome
  pub late_row : (workers : ℕ) (clock : ClockChoice) (log : Bool) (g : Graph) (actor row seen limit : ℕ) → ReadsRows order contents blocks (Run workers clock log) g → SensorLate contents g actor row seen limit → (outcome ≡ Some (fault.LateRow actor row seen limit)) ⊎ WantsRows outcome
  -- the meaning of these rows is too long
  pub long_meaning : (g : Graph) (rows : ℕ → List Row) → ReadsRows order contents blocks Meaning g → AreRows contents g rows → IsTooLongForAll g rows → (outcome ≡ Some (fault.Long None)) ⊎ WantsRows outcome
  -- `migrate` answers a fault of the graph's text too, and writes any graph that the text defines, unless a write fails
  pub unmigrated : (f : GraphFault) → Defines order contents blocks migrate (Err f) → (outcome ≡ Some (fault.Graph f)) ⊎ WantsGraph outcome
  pub migrated : (g : Graph) → Defines order contents blocks migrate (Ok g) → ((outcome ≡ None) ⊎ (outcome ≡ Some fault.Write)) ⊎ WantsGraph outcome
  -- an audit finds a lawful log lawful, and writes that unless a write fails; it refuses each other log by the verdict on it
  pub lawful : (plan : Parts) (rows : ℕ → List Row) (bytes : List ℕ) → CanAudit order contents blocks plan rows bytes → IsLawfulLog plan rows bytes → ((outcome ≡ None) ⊎ (outcome ≡ Some fault.Write)) ⊎ WantsLog outcome
  pub unlawful : (plan : Parts) (rows : ℕ → List Row) (bytes : List ℕ) → CanAudit order contents blocks plan rows bytes → (IsLawfulLog plan rows bytes → ⊥) → ((v : Verdict) × Refuses plan rows bytes v × (outcome ≡ Some (fault.Unlawful v))) ⊎ WantsLog outcome
  pub verdict : (plan : Parts) (rows : ℕ → List Row) (bytes : List ℕ) (v : Verdict) → CanAudit order contents blocks plan rows bytes → Refuses plan rows bytes v → (outcome ≡ Some (fault.Unlawful v)) ⊎ WantsLog outcome
  -- the recording's text has that fault
  pub air : (g : Graph) (bytes : List ℕ) (f : AirFault) → CanReadAir order contents blocks g bytes → air_of g bytes ≡ Err f → (outcome ≡ Some (fault.Air f)) ⊎ WantsAir outcome
