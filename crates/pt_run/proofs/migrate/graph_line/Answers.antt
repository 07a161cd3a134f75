use Rattle.pt_run.proofs.Migrating.{is_migrated}
use Rattle.pt_run.proofs.migrate.graph_line.Goals as goal

pub returns : goal.returns
returns g c =
    is_migrated c.args.graph.now c.args.blocks.now.listed.items c.in_ok-line.line.items c.push.new.self.items c.requires c.in_ok-line.ensures.text c.in_ok-line.ensures.reads_line c.in_ok-push.ensures.items
