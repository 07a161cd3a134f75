use Rattle.std.proofs.Common.{length}
use Rattle.pt_cases.proofs.platforms.arrivals.+are_in_order.Given as goal

abbrev pub decreases-are_in_order : goal.decreases-are_in_order
decreases-are_in_order l = length l.messages.now
