use Rattle.std.proofs.Common.{arith}
use Rattle.pt_monitors.proofs.InTime.{in_time_all, in_time_begins, in_time_next}
use Rattle.pt_monitors.proofs.turns.are_in_time.Goals as goal

pub loop-number-init : goal.loop-number-init
loop-number-init c = in_time_begins c.args.graph.now c.args.history.now.turns

pub loop-number-preserved : goal.loop-number-preserved
loop-number-preserved c = in_time_next c.args.graph.now c.args.history.now.turns c.loop-number.number (c.is_late.ensures c.if-is_late.false) c.loop-number.invariant

pub returns : goal.returns
returns c = λ yes. in_time_all c.args.graph.now c.args.history.now.turns c.loop-number.number (omega (arith, c.loop-number-test.false, c.results-number-end.ensures)) c.loop-number.invariant
