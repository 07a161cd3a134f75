use Rattle.std.proofs.Common.{◌≡◌, ap, ◌∙◌, rules}
use Rattle.pt_semantics.specs.Meaning.{added, at_time}
use Rattle.pt_queue.specs.Events.{waiting_in, value_in}
use Rattle.pt_turn.proofs.Enters.Rows.{row_event, row_there}
use Rattle.pt_turn.proofs.enter.entering.enter_row.Goals as goal

pub insert-requires-clause-absent : goal.insert-requires-clause-absent
insert-requires-clause-absent c = c.requires.absent c.args.sensor 0 (at_time c.args.row.time) c.args.row.value (row_there c.args.sensor c.args.row)

pub returns-clause-waits : goal.returns-clause-waits
returns-clause-waits c =
    let waits : waiting_in c.insert.new.self.events ≡ added (waiting_in c.args.queue.now.events) (value_in (record { tag = at_time c.args.row.time; actor = c.args.sensor; port = 0; value = c.args.row.value })) = search rules in
    waits ∙ ap (added (waiting_in c.args.queue.now.events)) (row_event c.args.sensor c.args.row)
