use Rattle.pt_actors.proofs.Cells.{Placed}
use Rattle.pt_actors.proofs.lanes.lanes.Given as goal

abbrev pub invariant-loop-cell : goal.invariant-loop-cell
invariant-loop-cell l = Placed l.cells l.inputs l.rest l.outputs l.cell
