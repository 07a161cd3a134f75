use Rattle.std.proofs.Common.{◌-◌, ◌≤◌, vec_len}
use Rattle.pt_io.proofs.clock.machine_clocks.Given as goal

abbrev pub invariant-loop-clocks : goal.invariant-loop-clocks
invariant-loop-clocks g l = vec_len l.clocks ≤ l.count

abbrev pub decreases-loop-clocks : goal.decreases-loop-clocks
decreases-loop-clocks g l = l.count - vec_len l.clocks
