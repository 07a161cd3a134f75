-- How `migrate` ends.
use Rattle.std.specs.Prelude.{◌≡◌, ◌≤◌, ◌++◌, ℕ, List, [], ◌∷◌, Ok, length}
use Rattle.pt_types.specs.declared.graph.Graph.{Graph}
use Rattle.pt_types.specs.Limits.{most_graph_bytes}
use Rattle.pt_blocks.specs.declared.blocks.Named.{Named}
use Rattle.pt_graph_writer.specs.Text.{graph_text}
use Rattle.pt_graph.specs.GraphOf.{graph_of}

-- some file defines the graph
abbrev pub IsDefined : List Named → Graph → Type 0
IsDefined blocks g = (bytes : List ℕ) × (graph_of blocks bytes ≡ Ok g)

-- the text is that of the graph as a file of version 2, and a line feed; unless that is longer than a file may be, a file with
-- this text defines the same graph
pub record IsMigrated (g : Graph) (blocks : List Named) (text : List ℕ) : Type 0 where
  pub is : text ≡ graph_text g blocks ++ 10 ∷ []
  pub reads_back : length text ≤ most_graph_bytes → graph_of blocks text ≡ Ok g
