use Rattle.std.proofs.Common.{◌≡◌, drop}
use Rattle.serde_json.specs.View.{items_view}
use Rattle.pt_graph_text.specs.Decoding.{each_from}
use Rattle.pt_graph_text.proofs.Each.{prepend}
use Rattle.pt_graph_text.proofs.decode.each.Given as goal

abbrev pub invariant-loop-i : goal.invariant-loop-i
invariant-loop-i g l = prepend l.found.items (each_from (g.T.Decode.decoded l.version) l.i (items_view (drop l.i l.items))) ≡ each_from (g.T.Decode.decoded l.version) 0 (items_view l.items)
