use Rattle.std.proofs.Common.{◌≡◌, ap, sym, ◌∙◌, rules}
use Rattle.pt_semantics.specs.Meaning.{added}
use Rattle.pt_queue.specs.Events.{waiting_in, value_in}
use Rattle.pt_turn.specs.Takes.Taken.{carried}
use Rattle.pt_turn.proofs.Takes.Messages.{carried_event, carried_there}
use Rattle.pt_turn.proofs.take.taking.deliver.Goals as goal

pub insert-requires-clause-absent : goal.insert-requires-clause-absent
insert-requires-clause-absent c =
    c.requires.absent c.args.link.to 0 c.in-Event.tag c.in-Event.value (ap (λ m. carried c.args.link m c.args.link.to 0 c.in-Event.tag) c.in-Event.is ∙ carried_there c.args.link c.in-Event.tag c.in-Event.value)

pub returns-in-Event-clause-waits : goal.returns-in-Event-clause-waits
returns-in-Event-clause-waits c =
    let waits : waiting_in c.insert.new.self.events ≡ added (waiting_in c.args.queue.now.events) (value_in (record { tag = c.in-Event.tag; actor = c.args.link.to; port = 0; value = c.in-Event.value })) = search rules in
    waits ∙ ap (added (waiting_in c.args.queue.now.events)) (carried_event c.args.link c.in-Event.tag c.in-Event.value ∙ ap (carried c.args.link) (sym c.in-Event.is))
