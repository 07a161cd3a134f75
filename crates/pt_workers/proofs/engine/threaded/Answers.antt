use Rattle.std.proofs.Common.{rules}
use Rattle.std.specs.Arc.{arc_value}
use Rattle.pt_workers.proofs.Naming.{ready_named}
use Rattle.pt_workers.proofs.engine.threaded.Goals as goal

pub run_named-requires-clause-all : goal.run_named-requires-clause-all
run_named-requires-clause-all g c κs within =
    let ready = c.requires.ready in
    ready_named (arc_value c.in_ok-plan.plan) ready.0 ready.1 c.args.platforms.items c.index.result.now (search rules) c.requires.some ready.2
