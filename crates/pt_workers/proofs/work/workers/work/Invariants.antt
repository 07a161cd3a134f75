use Rattle.std.proofs.Common.{◌<◌, length}
use Rattle.pt_workers.proofs.work.workers.work.Given as goal

abbrev pub invariant-rounds : goal.invariant-rounds
invariant-rounds g l = l.at < length l.stations
