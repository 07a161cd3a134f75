use Rattle.std.proofs.Common.{◌≡◌, map, take}
use Rattle.pt_graph.specs.Graphs.{link_from}
use Rattle.pt_graph.specs.Index.{at_name}
use Rattle.pt_graph.proofs.convert.links_of.Given as goal

abbrev pub invariant-loop-link : goal.invariant-loop-link
invariant-loop-link l = l.done.items ≡ map (link_from (at_name l.numbers)) (take l.link-index l.links)
