-- The headline of a run whose words state no number of claims.
use Rattle.std.specs.Prelude.{◌≡◌, ℕ, Bool, List, Option, Ok, Some, map}
use Rattle.pt_blocks.specs.declared.blocks.Named.{Named}
use Rattle.pt_graph.specs.GraphOf.{graph_of}
use Rattle.pt_io.specs.Calls.{Contents, SinkCall}
use Rattle.pt_words.specs.declared.orders.ClockChoice.{ClockChoice}
use Rattle.pt_words.specs.declared.orders.Command.TheVariants.{Run}
use Rattle.pt_words.specs.Grammar.{over, usual_file}
use Rattle.pt_run.specs.declared.fault.Fault.{Fault}
use Rattle.pt_run.specs.Headline.{Headline, Inputs}
use Rattle.pt_run.specs.OverFiles.{HasHeadline, HasReadings, at_end, inputs_of}
use Rattle.pt_run.specs.Written.{Leaves, run_clocks}
use Rattle.pt_sensor_files.specs.Bytes.{OfBytes}

-- the graph that the bytes of a file define, whatever number of claims the command states
abbrev pub usual_inputs : Contents → List Named → Inputs
usual_inputs contents blocks = record (inputs_of contents blocks) { graph = λ graph_file g. OfBytes (contents graph_file.name) (λ bytes. graph_of blocks bytes ≡ Ok g) }

-- with the usual number of claims the headline is of the graph that the bytes of the file define
abbrev pub UsualHeadline : Type 0
UsualHeadline =
    (contents : Contents) (blocks : List Named) (workers : ℕ) (clock : ClockChoice) (log : Bool) (name : List ℕ) (outcome : Option Fault) (left : Leaves) (w : SinkCall)
    → HasHeadline outcome left (Some (over (Run workers clock log) (usual_file name))) contents blocks w
    → Headline (usual_inputs contents blocks) (HasReadings (run_clocks workers clock left) left.platforms) (usual_file name) clock log outcome (map at_end left.platforms) left.misses w
