use Rattle.std.proofs.Common.{sym, ◌∙◌}
use Rattle.pt_queue.specs.Events.{waiting_in}
use Rattle.pt_turn.proofs.Beginning.{begins}
use Rattle.pt_turn.proofs.starting_events.begin.Goals as goal

pub returns-in-Some-clause-waits : goal.returns-in-Some-clause-waits
returns-in-Some-clause-waits c =
    c.insert.ensures.waits
    ∙ begins c.args.graph.now c.args.actor c.in-Some.time c.args.kind.now (waiting_in c.args.queue.now.events) (sym c.start_of.ensures ∙ c.in-Some.is)
