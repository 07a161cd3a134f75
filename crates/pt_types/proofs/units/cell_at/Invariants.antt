use Rattle.std.proofs.Common.{◌≡◌, drop}
use Rattle.pt_types.specs.Groups.{cell_at}
use Rattle.pt_types.proofs.Cells.{shifted}
use Rattle.pt_types.proofs.units.cell_at.Given as goal

abbrev pub invariant-loop-cell : goal.invariant-loop-cell
invariant-loop-cell l = shifted l.cell (cell_at (drop l.cell l.cells) l.left) ≡ cell_at l.cells l.input
