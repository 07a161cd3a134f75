use Rattle.std.proofs.Common.{length}
use Rattle.pt_cases.proofs.platforms.arrivals.+all_come_to.Given as goal

abbrev pub decreases-all_come_to : goal.decreases-all_come_to
decreases-all_come_to l = length l.messages.now
