-- An answer that the words and known files decide comes whenever it is due, unless memory runs out or a file cannot be read. So with
-- `IsDue` it comes exactly if its cause is there, and none before it. How else a run ends is in `IsComplete`.
use Rattle.std.specs.Prelude.{◌≡◌, ◌⊎◌, ℕ, List, Option, Some, None}
use Rattle.pt_blocks.specs.Blocks.{AreBlocks}
use Rattle.pt_blocks.specs.declared.blocks.Named.{Named}
use Rattle.pt_io.specs.Calls.{Contents}
use Rattle.pt_run.specs.Agreeing.{ReportsAll}
use Rattle.pt_run.specs.Due.{Answer, IsDue}
use Rattle.pt_words.specs.Grammar.{Order, over, make, migrate, audit, replay}
use Rattle.pt_run.specs.declared.fault.Fault.{Fault}
use Rattle.pt_run.specs.declared.fault.Fault.TheVariants as fault
use Rattle.pt_words.specs.declared.orders.Command.TheVariants.{Check, Meaning, Slacks}

-- memory ran out, or a file could not be read, though its content is known
abbrev pub IsCutShort : Option Fault → Type 0
IsCutShort (Some fault.Memory) = Unit {0}
IsCutShort (Some (fault.Read sensor)) = Unit {0}
IsCutShort (Some fault.ReadLog) = Unit {0}
IsCutShort (Some fault.ReadAir) = Unit {0}
IsCutShort _ = ⊥

-- the content of the file with this name is known
abbrev pub IsKnown : Contents → List ℕ → Type 0
IsKnown contents name = (bytes : List ℕ) × (contents name ≡ Some bytes)

-- that of the graph file is known
abbrev pub GraphKnown : Order → Contents → Type 0
GraphKnown (over command graph_file) contents = IsKnown contents graph_file.name
GraphKnown (make number workers) contents = ⊥
GraphKnown (migrate graph_file) contents = IsKnown contents graph_file.name
GraphKnown (audit graph_file log) contents = IsKnown contents graph_file.name
GraphKnown (replay graph_file air workers log) contents = IsKnown contents graph_file.name

-- and those of its sensors' files
abbrev pub RowsKnown : Order → Contents → List Named → Type 0
RowsKnown (over command graph_file) contents blocks = ReportsAll contents blocks graph_file
RowsKnown (make number workers) contents blocks = ⊥
RowsKnown (migrate graph_file) contents blocks = ⊥
RowsKnown (audit graph_file log) contents blocks = ReportsAll contents blocks graph_file
RowsKnown (replay graph_file air workers log) contents blocks = ReportsAll contents blocks graph_file

-- and that of the log or of the recording
abbrev pub LastKnown : Order → Contents → List Named → Type 0
LastKnown (audit graph_file log) contents blocks = ReportsAll contents blocks graph_file × IsKnown contents log
LastKnown (replay graph_file air workers log) contents blocks = ReportsAll contents blocks graph_file × IsKnown contents air
LastKnown _ contents blocks = ⊥

-- the files on which this answer depends are known; no files decide any other answer
abbrev pub IsDecided : Option Fault → Order → Contents → List Named → Type 0
IsDecided (Some (fault.Graph f)) order contents blocks = GraphKnown order contents
IsDecided (Some (fault.Cycle actors)) order contents blocks = GraphKnown order contents
IsDecided (Some (fault.Infeasible send offset slack)) order contents blocks = GraphKnown order contents
IsDecided (Some (fault.Ring sends gain)) order contents blocks = GraphKnown order contents × AreBlocks blocks
IsDecided (Some (fault.Sensor actor f)) order contents blocks = RowsKnown order contents blocks
IsDecided (Some (fault.LateRow actor row seen limit)) order contents blocks = RowsKnown order contents blocks
IsDecided (Some (fault.Long None)) order contents blocks = RowsKnown order contents blocks
IsDecided (Some (fault.Unlawful v)) order contents blocks = LastKnown order contents blocks
IsDecided (Some (fault.Air f)) order contents blocks = LastKnown order contents blocks
IsDecided None (over Check graph_file) contents blocks = IsKnown contents graph_file.name
IsDecided None (over Meaning graph_file) contents blocks = ReportsAll contents blocks graph_file
IsDecided None (over Slacks graph_file) contents blocks = IsKnown contents graph_file.name × AreBlocks blocks
IsDecided None (migrate graph_file) contents blocks = IsKnown contents graph_file.name
IsDecided None (audit graph_file log) contents blocks = LastKnown (audit graph_file log) contents blocks
IsDecided _ order contents blocks = ⊥

-- the answer that is due, or another one of its kind: another cycle or ring, or a failed write of a text that is due
abbrev pub IsAlike : Option Fault → Option Fault → Type 0
IsAlike None outcome = (outcome ≡ None) ⊎ (outcome ≡ Some fault.Write)
IsAlike (Some (fault.Cycle actors)) outcome = (others : List ℕ) × (outcome ≡ Some (fault.Cycle others))
IsAlike (Some (fault.Ring sends gain)) outcome = (others : List ℕ) × (more : ℕ) × (outcome ≡ Some (fault.Ring others more))
IsAlike due outcome = outcome ≡ due

-- whatever answer is due to this order, and decided by known files, the call ends with it or with one of its kind, or was cut short
abbrev pub IsExact : Option Fault → Option Order → Contents → List Named → Type 0
IsExact outcome None contents blocks = Unit {0}
IsExact outcome (Some order) contents blocks = (due : Answer) → IsDue (Some order) contents blocks due → IsDecided due.fault order contents blocks → IsCutShort outcome ⊎ IsAlike due.fault outcome
