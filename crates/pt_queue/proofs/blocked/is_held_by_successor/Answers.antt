use Rattle.std.proofs.Common.{sym}
use Rattle.pt_queue.proofs.blocked.is_held_by_successor.Goals as goal

pub returns-else-not-unit_holds_up : goal.returns-else-not-unit_holds_up
returns-else-not-unit_holds_up c = λ held. (c.in-Some.next, sym c.if-not-unit_holds_up.ensures)
