use Rattle.pt_run.proofs.OwnClocks.{one_worker}
use Rattle.pt_run.proofs.engines.visit_all.Goals as goal

pub returns-then-workers-eq1 : goal.returns-then-workers-eq1
returns-then-workers-eq1 g c = one_worker g.C.Clock.readings g.C.Clock.ahead c.args.workers c.alone.result c.args.platforms.items c.args.clocks.items c.alone.ensures.outcome
