use Rattle.pt_history.proofs.Along.{grows}
use Rattle.pt_monitors.specs.Misses.{missed_at}
use Rattle.pt_monitors.proofs.turns.missed_until.Goals as goal

pub loop-number-preserved : goal.loop-number-preserved
loop-number-preserved c =
    grows (missed_at c.args.graph.now) c.args.history.now.turns c.loop-number.number c.args.misses.now.items c.loop-number.misses.items c.missed_at.new.misses.items
    c.loop-number.invariant c.in_ok-missed_at.ensures
