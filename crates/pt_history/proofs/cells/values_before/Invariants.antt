use Rattle.std.proofs.Common.{◌≡◌, take}
use Rattle.pt_history.specs.Cells.{ones_in}
use Rattle.pt_history.proofs.cells.values_before.Given as goal

abbrev pub invariant-loop-group : goal.invariant-loop-group
invariant-loop-group l = l.sum ≡ ones_in (take l.group l.masks)
