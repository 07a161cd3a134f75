-- The whole file from its top object and from the arrays, which are decoded separately.
use Rattle.std.specs.Prelude.{ℕ, List, [], Option, Some, codes, Result, Ok}
use Rattle.serde_json.specs.Data.{Data, Members}
use Rattle.serde_json.specs.Find.{as_str}
use Rattle.pt_graph_text.specs.Apart.{list_at}
use Rattle.pt_graph_text.specs.Documents.{actor_of, wire_of, link_of, pair_of}
use Rattle.pt_graph_text.specs.Faults.{◌>>=◌, or_fault, array_parts, top}
use Rattle.pt_graph_text.specs.Whole.{head_of}
use Rattle.pt_graph_text.specs.declared.fault.Part.TheVariants as part
use Rattle.pt_graph_text.specs.declared.fault.GraphFault.{GraphFault}
use Rattle.pt_graph_text.specs.declared.fault.GraphFault.TheVariants as fault
use Rattle.pt_graph_text.specs.declared.version.Version.{Version}
use Rattle.pt_graph_text.specs.declared.version.Version.TheVariants.{First, Second}
use Rattle.pt_graph_text.specs.declared.document.Document.{Document}
use Rattle.pt_graph_text.specs.declared.document.PairText.{PairText}
use Rattle.pt_graph_text.specs.declared.arrays.Arrays.{Arrays}

abbrev pub arrays_of : Version → Members → Arrays
arrays_of v ms = record {
  platforms = list_at as_str (codes "platforms") ms;
  actors = list_at (actor_of v) (codes "actors") ms;
  wires = list_at (wire_of v) (codes "wires") ms;
  links = list_at (link_of v) (codes "links") ms;
  pairs = list_at (pair_of v) (codes "clock_errors") ms;
}

-- the clock errors of pairs; version 1 has none
abbrev pub pairs_in : Version → Option (Result (List PairText) ℕ) → Option (Result (List PairText) ℕ)
pairs_in First pairs = Some (Ok [])
pairs_in Second pairs = pairs

-- the file in this version: first the top object is checked, then each array
unfoldable pub document_with : Version → Data → Arrays → Result Document GraphFault
document_with v left a = do
  head ← or_fault (fault.Member top) (head_of v left)
  platforms ← or_fault (fault.Member top) a.platforms
  actors ← or_fault (fault.Member top) a.actors
  wires ← or_fault (fault.Member top) a.wires
  links ← or_fault (fault.Member top) a.links
  pairs ← or_fault (fault.Member top) (pairs_in v a.pairs)
  platforms ← array_parts part.Platform platforms
  actors ← array_parts part.Actor actors
  wires ← array_parts part.Wire wires
  links ← array_parts part.Link links
  pairs ← array_parts part.Pair pairs
  Ok (record { version = v; head = head; platforms = platforms; actors = actors; wires = wires; links = links; pairs = pairs })
