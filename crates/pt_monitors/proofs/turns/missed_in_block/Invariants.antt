use Rattle.std.proofs.Common.{◌-◌, ◌≤◌}
use Rattle.pt_monitors.specs.Misses.{AppendsUpTo}
use Rattle.pt_monitors.proofs.turns.missed_in_block.Given as goal

abbrev pub invariant-loop-number : goal.invariant-loop-number
invariant-loop-number l = record {
  more : l.from ≤ l.number;
  within : l.number ≤ l.end;
  appended : AppendsUpTo l.graph l.history.turns l.from l.number l.fn.misses.items l.misses.items;
}

abbrev pub decreases-loop-number : goal.decreases-loop-number
decreases-loop-number l = l.end - l.number
