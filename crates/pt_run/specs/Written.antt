-- What a command leaves, and what it must write.
use Rattle.std.specs.Prelude.{◌≡◌, ◌≤◌, ◌*◌, [], ℕ, ℤ, Bool, true, false, List, length, Option, None, Some, Ok}
use Rattle.pt_types.specs.declared.graph.Graph.{Graph}
use Rattle.pt_types.specs.declared.rows.Row.{Row}
use Rattle.pt_blocks.specs.declared.blocks.Named.{Named}
use Rattle.pt_semantics.specs.Ranks.{AreRanks}
use Rattle.pt_semantics.specs.Meaning.{ActorFiring, IsMeaning, IsLonger}
use Rattle.pt_semantics.specs.Tables.{tables_text}
use Rattle.pt_semantics.specs.Offsets.{IsFeasible}
use Rattle.pt_history.specs.declared.miss.Miss.{Miss}
use Rattle.pt_turn.specs.declared.fault.TurnFault.{TurnFault}
use Rattle.pt_turn.specs.declared.fault.TurnFault.TheVariants as turn
use Rattle.pt_turn.specs.Platforms.{PlatformView}
use Rattle.pt_offsets.specs.Plans.{Parts}
use Rattle.pt_offsets.specs.Margins.{HasActorOffset, HasMargin}
use Rattle.pt_tables.specs.Margins.{margins_text}
use Rattle.pt_io.specs.Calls.{Contents}
use Rattle.pt_sensors.specs.Places.{of_run}
use Rattle.pt_io.specs.Clocks.{ClockView}
use Rattle.pt_words.specs.declared.orders.ClockChoice.{ClockChoice}
use Rattle.pt_run.specs.Readings.{RunClocks}
use Rattle.pt_run.specs.Runs.{IsFinishedRun}
use Rattle.pt_run.specs.declared.fault.Fault.{Fault}
use Rattle.pt_run.specs.declared.fault.Fault.TheVariants as fault
use Rattle.pt_words.specs.Grammar.{GraphFile}
use Rattle.pt_run.specs.GraphFiles.{graph_by}
use Rattle.pt_sensor_files.specs.Bytes.{OfBytes}

-- the graph file, if its content is known, defines a graph, and a fact holds of that graph
abbrev pub GraphWith : Contents → List Named → GraphFile → (Graph → Type 0) → Type 0
GraphWith contents blocks graph_file Fact = (g : Graph) × OfBytes (contents graph_file.name) (λ bytes. graph_by blocks graph_file bytes ≡ Ok g) × Fact g

-- what a call leaves besides what it wrote: the misses and the platforms of a run and, for a run by the machine's clock, what
-- the clocks handed in showed before it and after it
pub record Leaves : Type 0 where
  pub misses : List Miss
  pub platforms : List PlatformView
  pub before : List ClockView
  pub now : List ClockView

-- no misses, no platforms and no clocks
abbrev pub leaves_nothing : Leaves
leaves_nothing = record { misses = []; platforms = []; before = []; now = [] }

-- no misses and no platforms
abbrev pub HasNothing : Leaves → Type 0
HasNothing left = (left.misses ≡ []) × (left.platforms ≡ [])

-- for the command `run`: whether a call that ended so had a run and leaves its platforms: it wrote all, or a write failed, or a platform stopped it
abbrev pub has_run : Option Fault → Bool
has_run None = true
has_run (Some fault.Write) = true
has_run (Some (fault.Long (Some platform))) = true
has_run (Some (fault.LateMessage platform actor tag reading limit)) = true
has_run _ = false

-- the platform that stopped the run, and its fault, by the fault of the call
abbrev pub stop_of : Option Fault → Option (ℕ × TurnFault)
stop_of (Some (fault.Long (Some platform))) = Some (platform, turn.Long)
stop_of (Some (fault.LateMessage platform actor tag reading limit)) = Some (platform, turn.Late actor tag reading limit)
stop_of _ = None

-- the clock of a run, with what it leaves
abbrev pub run_clocks : ℕ → ClockChoice → Leaves → RunClocks
run_clocks workers clock left = record { choice = clock; workers = workers; before = left.before; now = left.now }

-- the firings are the meaning of a graph and these rows
pub record Means (g : Graph) (rows : ℕ → List Row) (firings : List ActorFiring) : Type 0 where
  pub rank : ℕ → ℕ
  pub ranks : AreRanks g rank
  pub meaning : IsMeaning g rank (of_run g rows) firings

-- the meaning of a graph and these rows has more firings than `most`
pub record IsTooLong (g : Graph) (rows : ℕ → List Row) (most : ℕ) : Type 0 where
  pub rank : ℕ → ℕ
  pub ranks : AreRanks g rank
  pub longer : IsLonger g rank (of_run g rows) most

-- the text is the tables of the meaning of a graph and these rows, and a fact holds of the firings
pub record IsTables (g : Graph) (rows : ℕ → List Row) (Fact : List ActorFiring → Type 0) (text : List ℕ) : Type 0 where
  pub firings : List ActorFiring
  pub means : Means g rows firings
  pub fact : Fact firings
  pub tables : text ≡ tables_text g firings

-- there are at most the graph's number of claims times the number of platforms firings
abbrev pub FitOnAll : Graph → List ActorFiring → Type 0
FitOnAll g firings = length firings ≤ g.claims * length g.platforms

-- what a run of this graph must write and leave
pub record IsRun (contents : Contents) (g : Graph) (workers : ℕ) (clock : ClockChoice) (log : Bool) (left : Leaves) (text : List ℕ) : Type 0 where
  pub plan : Parts
  pub graph : plan.graph ≡ g
  pub finished : IsFinishedRun contents (run_clocks workers clock left) plan log left.platforms left.misses text

-- what `check` must write for this graph: each sender can send in time, and the text has the offset and margin of each actor
pub record IsChecked (g : Graph) (text : List ℕ) : Type 0 where
  pub feasible : IsFeasible g
  pub offset : ℕ → Option ℤ
  pub margin : ℕ → Option ℤ
  pub offsets : (a : ℕ) → HasActorOffset g a (offset a)
  pub margins : (a : ℕ) → HasMargin g a (margin a)
  pub lines : text ≡ margins_text g offset margin
