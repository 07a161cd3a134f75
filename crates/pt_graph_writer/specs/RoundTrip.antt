-- The text of a graph is read back as the graph.
use Rattle.std.specs.Prelude.{◌≡◌, ℕ, ◌≤◌, List, length, Ok}
use Rattle.pt_types.specs.declared.graph.Graph.{Graph}
use Rattle.pt_blocks.specs.declared.blocks.Named.{Named}
use Rattle.pt_graph.specs.GraphOf.{graph_of}
use Rattle.pt_types.specs.Limits.{most_graph_bytes}

-- if some file gives the graph, this text gives it too, unless it is longer than a file may be
abbrev pub ReadsBack : Graph → List Named → List ℕ → Type 0
ReadsBack g blocks text = (bytes : List ℕ) → graph_of blocks bytes ≡ Ok g → length text ≤ most_graph_bytes → graph_of blocks text ≡ Ok g
