use Rattle.std.proofs.Common.{◌≡◌, replicate}
use Rattle.pt_replay.proofs.starting.arrivals.Given as goal

abbrev pub invariant-loop : goal.invariant-loop
invariant-loop l = l.arrivals.items ≡ replicate l.counter 0
