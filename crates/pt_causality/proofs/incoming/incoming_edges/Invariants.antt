use Rattle.std.proofs.Common.{take}
use Rattle.pt_causality.specs.Incoming.{AreIncoming}
use Rattle.pt_causality.proofs.incoming.incoming_edges.Given as goal

abbrev pub invariant-loop-edge : goal.invariant-loop-edge
invariant-loop-edge l = AreIncoming (take l.edge-index l.edges) l.count l.lists
