-- An actor from its object and from its arrays, which are decoded separately.
use Rattle.std.specs.Prelude.{Option, Some, codes, option_map, option_and_then}
use Rattle.serde_json.specs.Data.{Members}
use Rattle.pt_graph_text.specs.Decoding.{whole}
use Rattle.pt_graph_text.specs.Apart.{list_at}
use Rattle.pt_graph_text.specs.Rows.{all_decoded, row_text_of}
use Rattle.pt_graph_text.specs.declared.version.Version.{Version}
use Rattle.pt_graph_text.specs.declared.kinds.KindText.{KindText}
use Rattle.pt_graph_text.specs.declared.kinds.KindText.TheVariants as kind
use Rattle.pt_graph_text.specs.declared.document.ActorText.{ActorText}
use Rattle.pt_graph_text.specs.declared.inner.Inner.{Inner}

abbrev pub inner_of : Version → Members → Inner
inner_of v ms = record {
  rows = list_at (row_text_of v) (codes "rows") ms;
  cells = list_at whole (codes "cells") ms;
}

-- a machine gets its rows and lanes get their cells from these arrays
abbrev pub kind_with : Inner → KindText → Option KindText
kind_with i (kind.Machine start outputs rows) = option_map (kind.Machine start outputs) (option_and_then all_decoded i.rows)
kind_with i (kind.Lanes cells) = option_map kind.Lanes (option_and_then all_decoded i.cells)
kind_with i k = Some k

abbrev pub with_inner : Inner → ActorText → Option ActorText
with_inner i a = option_map (λ k. record { name = a.name; platform = a.platform; kind = k }) (kind_with i a.kind)
