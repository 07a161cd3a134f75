use Rattle.std.proofs.Common.{◌+◌, length}
use Rattle.pt_causality.specs.Arcs.{arcs_from}
use Rattle.pt_causality.proofs.Searching.{Searched, unsettled}
use Rattle.pt_causality.proofs.shortest.row_from.Given as goal

abbrev pub invariant-loop-next : goal.invariant-loop-next
invariant-loop-next l = Searched l.arcs l.start l.row l.frontier

abbrev pub decreases-loop-next : goal.decreases-loop-next
decreases-loop-next l = unsettled (λ k. 1 + length (arcs_from l.arcs k)) l.row + length l.frontier
