use Rattle.std.proofs.Common.{◌≡◌, ◌++◌, map, drop}
use Rattle.pt_semantics.specs.Edges.{of_link, edges}
use Rattle.pt_causality.proofs.edges_of.all_edges.Given as goal

abbrev pub invariant-loop-link : goal.invariant-loop-link
invariant-loop-link l = l.all.items ++ map of_link (drop l.link-index l.graph.links) ≡ edges l.graph
