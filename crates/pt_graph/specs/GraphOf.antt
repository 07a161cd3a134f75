-- The graph of a text, or its first fault.
use Rattle.std.specs.Prelude.{ℕ, List, length, nat_lt, Option, None, Result, Ok, Err, ⊤, option_map, if◌then◌else◌}
use Rattle.std.specs.Str.{is_utf8}
use Rattle.serde_json.specs.Data.{Data}
use Rattle.serde_json.specs.Read.{read}
use Rattle.pt_types.specs.declared.graph.Graph.{Graph}
use Rattle.pt_blocks.specs.declared.blocks.Named.{Named}
use Rattle.pt_graph_text.specs.Faults.{◌>>=◌, or_fault}
use Rattle.pt_graph_text.specs.Whole.{document_of}
use Rattle.pt_graph_text.specs.declared.document.Document.{Document}
use Rattle.pt_graph_text.specs.declared.fault.GraphFault.{GraphFault}
use Rattle.pt_graph_text.specs.declared.fault.GraphFault.TheVariants as fault
use Rattle.pt_graph.specs.Chains.{refused}
use Rattle.pt_graph.specs.Limits.{too_many}
use Rattle.pt_graph.specs.Ranges.{range_place}
use Rattle.pt_graph.specs.Naming.{name_place}
use Rattle.pt_graph.specs.Known.{repeated_place, unknown_place}
use Rattle.pt_graph.specs.EndFaults.{checked_ends, block_place}
use Rattle.pt_graph.specs.Graphs.{actors_of, wires_of, links_of, graph_from}
use Rattle.pt_types.specs.Limits.{most_graph_bytes}

-- the JSON value that serde_json reads from the bytes, which must be UTF-8
unfoldable pub json_of : List ℕ → Option Data
json_of bytes = if is_utf8 bytes then read bytes else None

-- the checks of a document, each over all of it; the first that fails gives the fault
unfoldable pub checked : Document → Result ⊤ GraphFault
checked d = do
  done ← refused (too_many d)
  done ← refused (option_map fault.Range (range_place d))
  done ← refused (option_map fault.Name (name_place d))
  done ← refused (option_map fault.Repeated (repeated_place d))
  refused (option_map fault.Unknown (unknown_place d))

-- the graph of a document: first the checks of wires and links, with numbers for names, then that of blocks
unfoldable pub built : List Named → Document → Result Graph GraphFault
built blocks d = do
  done ← checked_ends (actors_of blocks d) (wires_of d) (links_of d)
  done ← refused (option_map fault.Block (block_place blocks d))
  Ok (graph_from blocks d)

-- the graph of a text that is not too long
unfoldable pub graph_in : List Named → List ℕ → Result Graph GraphFault
graph_in blocks bytes = do
  value ← or_fault fault.NotJson (json_of bytes)
  document ← document_of value
  done ← checked document
  built blocks document

-- the graph of a text, if actors may name these blocks
unfoldable pub graph_of : List Named → List ℕ → Result Graph GraphFault
graph_of blocks bytes = if nat_lt most_graph_bytes (length bytes) then Err fault.TooLong else graph_in blocks bytes
