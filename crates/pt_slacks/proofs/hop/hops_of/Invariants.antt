use Rattle.std.proofs.Common.{◌≡◌, map, take}
use Rattle.pt_slacks.specs.Hops.{hop_of}
use Rattle.pt_slacks.proofs.hop.hops_of.Given as goal

abbrev pub invariant-loop-link : goal.invariant-loop-link
invariant-loop-link l = l.hops.items ≡ map (hop_of l.graph) (take l.link-index l.graph.links)
