use Rattle.std.proofs.Common.{sym}
use Rattle.pt_queue.proofs.blocked.is_held_still.Goals as goal

pub returns-then-unit_holds_up : goal.returns-then-unit_holds_up
returns-then-unit_holds_up c = λ held. (c.in-Some.last, sym c.if-unit_holds_up.ensures)
