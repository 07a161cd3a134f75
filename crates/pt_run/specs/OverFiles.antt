-- The headline of a call: what its files say, what it leaves, and by which readings its run went.
use Rattle.std.specs.Prelude.{◌≡◌, ℕ, List, Option, Ok, map}
use Rattle.pt_types.specs.declared.graph.Graph.{Graph}
use Rattle.pt_types.specs.declared.rows.Row.{Row}
use Rattle.pt_blocks.specs.declared.blocks.Named.{Named}
use Rattle.pt_causality.specs.Ranked.{level_of}
use Rattle.pt_offsets.specs.Plans.{Parts}
use Rattle.pt_turn.specs.declared.fault.TurnFault.{TurnFault}
use Rattle.pt_turn.specs.Platforms.{PlatformView, state_at}
use Rattle.pt_sensor_files.specs.declared.recorded_fault.LateRows.TheVariants.{Refused}
use Rattle.pt_io.specs.Calls.{Contents, SinkCall}
use Rattle.pt_sensors.specs.Places.{of_run}
use Rattle.pt_sensor_files.specs.Recorded.{AllPass, AreRows, SensorLate}
use Rattle.pt_run.specs.declared.fault.Fault.{Fault}
use Rattle.pt_run.specs.Headline.{AtEnd, Inputs, IsHeadline}
use Rattle.pt_run.specs.Readings.{RunClocks, ReadBy}
use Rattle.pt_words.specs.Grammar.{Order}
use Rattle.pt_run.specs.Written.{Leaves, run_clocks}
use Rattle.pt_run.specs.GraphFiles.{graph_by}
use Rattle.pt_sensor_files.specs.Bytes.{OfBytes}

-- the graph that the bytes of a file define, and the rows that the sensors' files have; where a source doesn't report a file's bytes, any
abbrev pub inputs_of : Contents → List Named → Inputs
inputs_of contents blocks = record {
  graph = λ graph_file g. OfBytes (contents graph_file.name) (λ bytes. graph_by blocks graph_file bytes ≡ Ok g);
  rows = λ g rows. (all : ℕ → List Row) × AreRows contents g all × AllPass Refused g all × (rows ≡ of_run g all);
  late_row = SensorLate contents;
}

-- a platform at the end of a run, from all that contracts see of it
abbrev pub at_end : PlatformView → AtEnd
at_end v = record { number = v.number; turns = v.turns; state = state_at v; fault = v.fault }

-- the readings that these platforms went by, for a plan of the graph with these levels
pub record HasReadings (c : RunClocks) (platforms : List PlatformView) (g : Graph) (level : ℕ → ℕ) (rows : ℕ → List Row) (stop : Option (ℕ × TurnFault)) : Type 0 where
  pub plan : Parts
  pub graph : plan.graph ≡ g
  pub levels : level_of plan.ranks ≡ level
  pub readings : ReadBy c plan rows platforms stop

-- the headline of a call that left this
abbrev pub HasHeadline : Option Fault → Leaves → Option Order → Contents → List Named → SinkCall → Type 0
HasHeadline outcome left order contents blocks w =
    IsHeadline (inputs_of contents blocks) (λ workers clock. HasReadings (run_clocks workers clock left) left.platforms) order outcome (map at_end left.platforms) left.misses w
