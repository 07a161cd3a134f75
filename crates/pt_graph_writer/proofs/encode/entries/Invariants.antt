use Rattle.std.proofs.Common.{◌≡◌, ◌++◌, map, drop}
use Rattle.std.specs.List.{list_all}
use Rattle.serde_json.specs.View.{view}
use Rattle.pt_graph_writer.proofs.encode.entries.Given as goal

abbrev pub invariant-loop-item : goal.invariant-loop-item
invariant-loop-item g l = record {
  values : map view l.list.items ++ map (g.T.Encode.encoded l.graph l.blocks) (drop l.item-index l.items) ≡ map (g.T.Encode.encoded l.graph l.blocks) l.items;
  fit : list_all g.T.Encode.fits l.items ≡ list_all g.T.Encode.fits (drop l.item-index l.items);
}
