-- What is put on notes.
use Rattle.std.specs.Prelude.{◌≡◌, ◌⊎◌, [], ℕ, List, Option, None, Some, false, flat_map, slice_get}
use Rattle.pt_io.specs.Causes.{Appends, AppendsPart, Rose}
use Rattle.pt_types.specs.declared.graph.Graph.{Graph}
use Rattle.pt_blocks.specs.declared.blocks.Named.{Named}
use Rattle.pt_history.specs.declared.miss.Miss.{Miss}
use Rattle.pt_tables.specs.Misses.{miss_line}
use Rattle.pt_turn.specs.Platforms.{PlatformView}
use Rattle.pt_io.specs.Calls.{Contents, SinkCall}
use Rattle.pt_run.specs.declared.fault.Fault.{Fault}
use Rattle.pt_run.specs.declared.fault.Fault.TheVariants as fault
use Rattle.pt_words.specs.declared.orders.ClockChoice.TheVariants.{Paced}
use Rattle.pt_words.specs.declared.orders.Command.{Command}
use Rattle.pt_words.specs.declared.orders.Command.TheVariants.{Run}
use Rattle.pt_words.specs.Grammar.{GraphFile}
use Rattle.pt_run.specs.Written.{GraphWith}
use Rattle.pt_run.specs.Notes.{note_line}

-- the notes of a call: the line of its fault, or a line for each miss
abbrev pub notes_of : Option Fault → List Miss → Option Graph → List ℕ
notes_of (Some f) misses g = note_line f g
notes_of None misses (Some g) = flat_map (miss_line g) misses
notes_of None misses None = []

-- a text was put: all of it, or a prefix if a put failed
abbrev pub IsPut : List ℕ → SinkCall → Type 0
IsPut text w = Appends w.written_before w.written_now text ⊎ (Rose w.before w.now × AppendsPart w.written_before w.written_now text)

-- the notes of a call on a graph, if there is one; if memory ran out, they may be anything
abbrev pub Reports : Option Fault → List Miss → Option Graph → SinkCall → Type 0
Reports (Some fault.Memory) misses g w = Unit {0}
Reports outcome misses g w = IsPut (notes_of outcome misses g) w

-- these platforms are of this graph
abbrev pub AreOfGraph : List PlatformView → Graph → Type 0
AreOfGraph platforms g = (i : ℕ) (v : PlatformView) → slice_get platforms i ≡ Some v → v.plan.graph ≡ g

-- a paced run. An audit and a replay refuse their graph and the files of its sensors exactly as such a run does
abbrev pub paced_run : Command
paced_run = Run 1 Paced false

-- the notes of a call for some words that left these platforms: names in them are those of the graph in the file that the words
-- name, of which the platforms are
abbrev pub ReportsBy : Option Fault → List Miss → List PlatformView → Option (Command × GraphFile) → Contents → List Named → SinkCall → Type 0
ReportsBy (Some fault.Memory) misses platforms order contents blocks w = Unit {0}
ReportsBy (Some fault.Usage) misses platforms order contents blocks w = Reports (Some fault.Usage) misses None w
ReportsBy (Some (fault.Graph f)) misses platforms order contents blocks w = Reports (Some (fault.Graph f)) misses None w
ReportsBy (Some (fault.Read None)) misses platforms order contents blocks w = Reports (Some (fault.Read None)) misses None w
ReportsBy outcome misses platforms None contents blocks w = Reports outcome misses None w
ReportsBy outcome misses platforms (Some order) contents blocks w = GraphWith contents blocks order.1 (λ g. AreOfGraph platforms g × Reports outcome misses (Some g) w)
