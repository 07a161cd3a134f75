use Rattle.std.proofs.Common.{◌≡◌}
use Rattle.pt_queue.proofs.loose.widen.Given as goal

abbrev pub invariant-loop-line : goal.invariant-loop-line
invariant-loop-line l = l.lines ≡ l.fn.lines
