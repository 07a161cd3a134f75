use Rattle.pt_monitors.proofs.Missing.{lists_missed}
use Rattle.pt_monitors.proofs.turns.missed_in.Goals as goal

pub returns-clause-all : goal.returns-clause-all
returns-clause-all c = lists_missed c.args.graph.now c.args.history.now.turns
