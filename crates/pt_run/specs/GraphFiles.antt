-- The graph of a graph file: what its bytes define, with the number of claims that the command states.
use Rattle.std.specs.Prelude.{◌≡◌, ℕ, List, Result, Ok, Err}
use Rattle.pt_types.specs.declared.graph.Graph.{Graph}
use Rattle.pt_blocks.specs.declared.blocks.Named.{Named}
use Rattle.pt_graph_text.specs.declared.fault.GraphFault.{GraphFault}
use Rattle.pt_graph.specs.GraphOf.{graph_of}
use Rattle.pt_words.specs.Grammar.{GraphFile}

-- the same graph, in which a platform may make this number of claims
abbrev pub with_claims : ℕ → Graph → Graph
with_claims claims g = record g { claims = claims }

-- a graph gets this number of claims, and a fault stays
abbrev pub claiming : ℕ → Result Graph GraphFault → Result Graph GraphFault
claiming claims (Ok g) = Ok (with_claims claims g)
claiming claims (Err f) = Err f

-- the graph that a graph file with these bytes defines for a command, or the first fault of the bytes
unfoldable pub graph_by : List Named → GraphFile → List ℕ → Result Graph GraphFault
graph_by blocks graph_file bytes = claiming graph_file.claims (graph_of blocks bytes)

-- some bytes of the graph file define this graph
abbrev pub IsGraphOf : List Named → GraphFile → Graph → Type 0
IsGraphOf blocks graph_file g = (bytes : List ℕ) × (graph_by blocks graph_file bytes ≡ Ok g)
