use Rattle.std.proofs.Common.{◌-◌, ◌<◌}
use Rattle.pt_history.proofs.ends.Ends.list_behind.Given as goal

abbrev pub invariant-loop-high : goal.invariant-loop-high
invariant-loop-high l = l.low < l.high

abbrev pub decreases-loop-high : goal.decreases-loop-high
decreases-loop-high l = l.lists - l.high
