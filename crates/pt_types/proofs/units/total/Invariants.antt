use Rattle.std.proofs.Common.{◌≡◌, sum, take}
use Rattle.pt_types.specs.Groups.{held}
use Rattle.pt_types.proofs.units.total.Given as goal

abbrev pub invariant-loop-n : goal.invariant-loop-n
invariant-loop-n l = l.total ≡ held (sum (take l.n-index l.cells))
