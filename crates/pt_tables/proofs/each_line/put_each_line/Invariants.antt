use Rattle.std.proofs.Common.{◌≡◌, List, ℕ, ◌++◌, length}
use Rattle.pt_io.specs.Calls.{writing}
use Rattle.pt_tables.specs.Putting.{IsPut}
use Rattle.pt_tables.proofs.each_line.put_each_line.Given as goal

abbrev pub invariant-loop-rest : goal.invariant-loop-rest
invariant-loop-rest g l = (front : List ℕ) × (front ++ l.rest ≡ l.text) × IsPut (writing g.K.Sink l.fn.out l.out) front

abbrev pub decreases-loop-rest : goal.decreases-loop-rest
decreases-loop-rest g l = length l.rest
