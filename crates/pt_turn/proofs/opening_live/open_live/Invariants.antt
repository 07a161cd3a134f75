use Rattle.std.specs.Arc.{arc_value}
use Rattle.pt_turn.proofs.Live.{AreLive}
use Rattle.pt_turn.proofs.opening_live.open_live.Given as goal

abbrev pub invariant-loop-number : goal.invariant-loop-number
invariant-loop-number l = AreLive (arc_value l.fn.plan) l.number l.platforms.items
