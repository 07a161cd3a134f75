-- The parts of a graph file, from their JSON values.
use Rattle.std.specs.Prelude.{Option, Some, codes}
use Rattle.serde_json.specs.Data.{Data}
use Rattle.serde_json.specs.Find.{as_str}
use Rattle.pt_graph_text.specs.Decoding.{◌>>=◌, only_if, field, place, whole, has_members, has_items}
use Rattle.pt_graph_text.specs.Kinds.{kind_text_of}
use Rattle.pt_graph_text.specs.declared.version.Version.{Version}
use Rattle.pt_graph_text.specs.declared.document.LinkText.{LinkText}
use Rattle.pt_graph_text.specs.declared.document.WireText.{WireText}
use Rattle.pt_graph_text.specs.declared.document.PairText.{PairText}
use Rattle.pt_graph_text.specs.declared.document.ActorText.{ActorText}

unfoldable pub link_of : Version → Data → Option LinkText
link_of v d = only_if (has_members 3 d) (do
  from ← field as_str (codes "from") d
  to ← field as_str (codes "to") d
  delay ← field whole (codes "delay") d
  Some (record { from = from; to = to; delay = delay }))

unfoldable pub wire_of : Version → Data → Option WireText
wire_of v d = only_if (has_items 4 d) (do
  from ← place as_str 0 d
  output ← place whole 1 d
  to ← place as_str 2 d
  input ← place whole 3 d
  Some (record { from = from; output = output; to = to; input = input }))

unfoldable pub pair_of : Version → Data → Option PairText
pair_of v d = only_if (has_items 3 d) (do
  a ← place as_str 0 d
  b ← place as_str 1 d
  error ← place whole 2 d
  Some (record { a = a; b = b; error = error }))

unfoldable pub actor_of : Version → Data → Option ActorText
actor_of v d = do
  word ← field as_str (codes "kind") d
  name ← field as_str (codes "name") d
  platform ← field as_str (codes "platform") d
  kind ← kind_text_of v word d
  Some (record { name = name; platform = platform; kind = kind })
