use Rattle.std.proofs.Common.{◌≡◌, ◌+◌, drop}
use Rattle.pt_types.specs.Groups.{cell_of}
use Rattle.pt_causality.proofs.arcs.cell_of.Given as goal

abbrev pub invariant-loop-cell : goal.invariant-loop-cell
invariant-loop-cell l = l.cell + cell_of (drop l.cell l.cells) l.left ≡ cell_of l.cells l.input
