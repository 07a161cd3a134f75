use Rattle.std.specs.Arc.{arc_value}
use Rattle.pt_turn.proofs.EveryOpened.{AreOpened}
use Rattle.pt_turn.proofs.all_platforms.open_all.Given as goal

abbrev pub invariant-loop-number : goal.invariant-loop-number
invariant-loop-number l = AreOpened (arc_value l.fn.plan) l.fn.entries.items l.number l.rest.items l.platforms.items
