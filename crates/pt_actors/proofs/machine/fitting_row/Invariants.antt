use Rattle.std.proofs.Common.{◌≡◌, drop}
use Rattle.pt_semantics.specs.Lists.{first_of}
use Rattle.pt_semantics.specs.Firing.{row_fits}
use Rattle.pt_actors.proofs.machine.fitting_row.Given as goal

abbrev pub invariant-loop-row : goal.invariant-loop-row
invariant-loop-row g l = first_of (row_fits l.state l.a) (drop l.row-index l.rows) ≡ first_of (row_fits l.state l.a) l.rows
