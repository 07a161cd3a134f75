-- What the checks of a document give.
use Rattle.std.specs.Prelude.{◌≡◌, ◌≢◌, ℕ, List, Result, Ok, Err}
use Rattle.std.specs.BTreeMap.{BTreeMap}
use denote.Ref.{Bor}
use Rattle.pt_graph_text.specs.Faults.{◌>>=◌, or_fault}
use Rattle.pt_graph_text.specs.Whole.{document_of}
use Rattle.pt_graph_text.specs.declared.document.Document.{Document}
use Rattle.pt_graph_text.specs.declared.fault.GraphFault.{GraphFault}
use Rattle.pt_graph_text.specs.declared.fault.GraphFault.TheVariants as fault
use Rattle.pt_graph.specs.declared.reader.Wiring.{Wiring}
use Rattle.pt_graph.specs.Known.{first_named, name_of_actor}
use Rattle.pt_graph.specs.Index.{at_name}
use Rattle.pt_graph.specs.Graphs.{wires_of, links_of}
use Rattle.pt_graph.specs.GraphOf.{json_of, checked}

-- the document passes its checks, and the map has the numbers of its actors; or the document has this fault
abbrev pub GivesNumbers : Document → Result (BTreeMap (Bor (List ℕ)) ℕ) GraphFault → Type 0
GivesNumbers d (Ok m) = (checked d ≡ Ok tt) × (at_name m ≡ first_named name_of_actor d.actors)
GivesNumbers d (Err e) = e ≢ fault.Memory → checked d ≡ Err e

-- the document passes its checks, and these are its wires and links; or the document has this fault
abbrev pub GivesWiring : Document → Result Wiring GraphFault → Type 0
GivesWiring d (Ok w) = (checked d ≡ Ok tt) × (w.wires.items ≡ wires_of d) × (w.links.items ≡ links_of d)
GivesWiring d (Err e) = e ≢ fault.Memory → checked d ≡ Err e

-- the document of a text
unfoldable pub document_of_bytes : List ℕ → Result Document GraphFault
document_of_bytes bytes = or_fault fault.NotJson (json_of bytes) >>= document_of
