-- What is put on notes, of how a call ends.
use Rattle.std.proofs.Common.{◌≡◌, List, Option, Some, None, Ok, sym, ap, ◌∙◌}
use Rattle.std.specs.Prelude.{slice_get}
use Rattle.pt_types.specs.declared.graph.Graph.{Graph}
use Rattle.pt_blocks.specs.declared.blocks.Named.{Named}
use Rattle.pt_history.specs.declared.miss.Miss.{Miss}
use Rattle.pt_semantics.proofs.Lookups.{none_some}
use Rattle.pt_io.specs.Calls.{Contents, SinkCall}
use Rattle.pt_turn.specs.Platforms.{PlatformView}
use Rattle.pt_run.specs.declared.fault.Fault.{Fault}
use Rattle.pt_run.specs.declared.fault.Fault.TheVariants as fault
use Rattle.pt_words.specs.declared.orders.Command.{Command}
use Rattle.pt_run.specs.Reporting.{AreOfGraph, Reports, ReportsBy}
use Rattle.pt_run.specs.Written.{HasNothing, Leaves}
use Rattle.pt_run.specs.GraphFiles.{graph_by}
use Rattle.pt_words.specs.Grammar.{GraphFile}
use Rattle.pt_sensor_files.specs.Bytes.{OfBytes}

-- no platforms are of any graph
pub of_none : (left : Leaves) (g : Graph) → HasNothing left → AreOfGraph left.platforms g
of_none left g h i v at = absurd (none_some v (ap (λ ps. slice_get ps i) (sym h.1) ∙ at))

-- what is reported over a graph that was read from the file of that name
pub reported_file : (c : Command) (outcome : Option Fault) (misses : List Miss) (platforms : List PlatformView) (contents : Contents) (blocks : List Named) (graph_file : GraphFile) (g : Graph) (w : SinkCall) → OfBytes (contents graph_file.name) (λ bytes. graph_by blocks graph_file bytes ≡ Ok g) → AreOfGraph platforms g → Reports outcome misses (Some g) w → ReportsBy outcome misses platforms (Some (c, graph_file)) contents blocks w
reported_file c None misses platforms contents blocks graph_file g w read of h = (g, read, (of, h))
reported_file c (Some fault.Memory) misses platforms contents blocks graph_file g w read of h = tt
reported_file c (Some fault.Usage) misses platforms contents blocks graph_file g w read of h = h
reported_file c (Some (fault.Graph f)) misses platforms contents blocks graph_file g w read of h = h
reported_file c (Some (fault.Read None)) misses platforms contents blocks graph_file g w read of h = h
reported_file c (Some (fault.Read (Some actor))) misses platforms contents blocks graph_file g w read of h = (g, read, (of, h))
reported_file c (Some (fault.Cycle actors)) misses platforms contents blocks graph_file g w read of h = (g, read, (of, h))
reported_file c (Some (fault.Infeasible send offset slack)) misses platforms contents blocks graph_file g w read of h = (g, read, (of, h))
reported_file c (Some (fault.Ring sends gain)) misses platforms contents blocks graph_file g w read of h = (g, read, (of, h))
reported_file c (Some fault.ReadLog) misses platforms contents blocks graph_file g w read of h = (g, read, (of, h))
reported_file c (Some (fault.Unlawful v)) misses platforms contents blocks graph_file g w read of h = (g, read, (of, h))
reported_file c (Some (fault.LateAir platform actor tag reading limit row)) misses platforms contents blocks graph_file g w read of h = (g, read, (of, h))
reported_file c (Some (fault.Air e)) misses platforms contents blocks graph_file g w read of h = (g, read, (of, h))
reported_file c (Some fault.ReadAir) misses platforms contents blocks graph_file g w read of h = (g, read, (of, h))
reported_file c (Some (fault.Sensor actor f)) misses platforms contents blocks graph_file g w read of h = (g, read, (of, h))
reported_file c (Some (fault.LateRow actor row seen limit)) misses platforms contents blocks graph_file g w read of h = (g, read, (of, h))
reported_file c (Some (fault.LateMessage platform actor tag reading limit)) misses platforms contents blocks graph_file g w read of h = (g, read, (of, h))
reported_file c (Some (fault.Long platform)) misses platforms contents blocks graph_file g w read of h = (g, read, (of, h))
reported_file c (Some fault.Write) misses platforms contents blocks graph_file g w read of h = (g, read, (of, h))
