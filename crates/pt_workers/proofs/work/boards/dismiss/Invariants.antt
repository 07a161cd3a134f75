use Rattle.std.proofs.Common.{◌≡◌}
use Rattle.pt_workers.proofs.work.boards.dismiss.Given as goal

abbrev pub invariant-loop-k : goal.invariant-loop-k
invariant-loop-k g l = l.station ≡ l.initial.station
