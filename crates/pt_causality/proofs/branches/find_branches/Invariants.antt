use Rattle.std.proofs.Common.{◌-◌, length}
use Rattle.pt_causality.proofs.Branching.{AreNext}
use Rattle.pt_causality.proofs.branches.find_branches.Given as goal

abbrev pub invariant-loop-behind : goal.invariant-loop-behind
invariant-loop-behind l = AreNext l.graph.wires (length l.graph.actors) (l.count - l.behind) l.first.items l.next.items
