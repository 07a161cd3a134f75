use Rattle.std.proofs.Common.{length}
use Rattle.pt_cases.proofs.platforms.arrivals.+all_after.Given as goal

abbrev pub decreases-all_after : goal.decreases-all_after
decreases-all_after l = length l.messages.now
