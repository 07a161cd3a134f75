-- The whole file as it is written, or its first fault.
use Rattle.std.specs.Prelude.{ℕ, List, Option, Some, codes, Result, Ok, option_and_then}
use Rattle.serde_json.specs.Data.{Data, Items, no_items}
use Rattle.serde_json.specs.Find.{get, as_str, as_array}
use Rattle.serde_json.specs.Read.{read}
use Rattle.pt_graph_text.specs.Decoding as decoding
use Rattle.pt_graph_text.specs.Decoding.{only_if, field, whole, has_members, each_from}
use Rattle.pt_graph_text.specs.Versions.{version_of}
use Rattle.pt_graph_text.specs.Documents.{actor_of, wire_of, link_of, pair_of}
use Rattle.pt_graph_text.specs.Faults.{◌>>=◌, or_fault, array_parts, top}
use Rattle.pt_graph_text.specs.declared.fault.Part.TheVariants as part
use Rattle.pt_graph_text.specs.declared.fault.GraphFault.{GraphFault}
use Rattle.pt_graph_text.specs.declared.fault.GraphFault.TheVariants as fault
use Rattle.pt_graph_text.specs.declared.version.Version.{Version}
use Rattle.pt_graph_text.specs.declared.version.Version.TheVariants.{First, Second}
use Rattle.pt_graph_text.specs.declared.document.TopNumbers.{TopNumbers}
use Rattle.pt_graph_text.specs.declared.document.Document.{Document}

-- the top object has seven members, and in version 2 one more
abbrev pub top_members : Version → ℕ
top_members First = 7
top_members Second = 8

-- the numbers of the top object
unfoldable pub head_of : Version → Data → Option TopNumbers
head_of v d = only_if (has_members (top_members v) d)
    (decoding.◌>>=◌ (field whole (codes "ptides") d) (λ version.
    decoding.◌>>=◌ (field whole (codes "until") d) (λ until.
    decoding.◌>>=◌ (field whole (codes "clock_error") d) (λ clock_error.
    Some (record { version = version; until = until; clock_error = clock_error })))))

abbrev pub array : List ℕ → Data → Option Items
array key d = option_and_then as_array (get key d)

-- the clock errors of pairs; version 1 has none
abbrev pub pairs_of : Version → Data → Option Items
pairs_of First d = Some no_items
pairs_of Second d = array (codes "clock_errors") d

-- the file in this version: first the top object is checked, then each array from its first entry on
unfoldable pub document_in : Version → Data → Result Document GraphFault
document_in v d = do
  head ← or_fault (fault.Member top) (head_of v d)
  platforms ← or_fault (fault.Member top) (array (codes "platforms") d)
  actors ← or_fault (fault.Member top) (array (codes "actors") d)
  wires ← or_fault (fault.Member top) (array (codes "wires") d)
  links ← or_fault (fault.Member top) (array (codes "links") d)
  pairs ← or_fault (fault.Member top) (pairs_of v d)
  platforms ← array_parts part.Platform (each_from as_str 0 platforms)
  actors ← array_parts part.Actor (each_from (actor_of v) 0 actors)
  wires ← array_parts part.Wire (each_from (wire_of v) 0 wires)
  links ← array_parts part.Link (each_from (link_of v) 0 links)
  pairs ← array_parts part.Pair (each_from (pair_of v) 0 pairs)
  Ok (record { version = v; head = head; platforms = platforms; actors = actors; wires = wires; links = links; pairs = pairs })

abbrev pub document_of : Data → Result Document GraphFault
document_of d = document_in (version_of d) d

-- the document of a text: that of the JSON value that serde_json reads from it
unfoldable pub document_of_text : List ℕ → Result Document GraphFault
document_of_text text = do
  value ← or_fault fault.NotJson (read text)
  document_of value
