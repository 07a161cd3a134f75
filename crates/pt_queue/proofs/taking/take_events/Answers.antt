use Rattle.std.proofs.Common.{None, sym, ◌∙◌}
use Rattle.pt_queue.specs.Lines.{all_of}
use Rattle.pt_queue.specs.Scans.{least_from}
use Rattle.pt_queue.proofs.Quiet.{none_for, none_waits}
use Rattle.pt_queue.proofs.Removing.{none_at}
use Rattle.pt_queue.proofs.Soonest.{least_append, least_none}
use Rattle.pt_queue.proofs.taking.take_events.Goals as goal

pub take_from_lines-requires-clause-loose : goal.take_from_lines-requires-clause-loose
take_from_lines-requires-clause-loose c = λ off p t. none_waits c.args.unit.actor p t c.args.loose.now.items (sym c.has_events.ensures ∙ c.if-has_events.false)

pub returns-clause-loose : goal.returns-clause-loose
returns-clause-loose c = sym (none_at c.args.table.now c.args.unit c.args.tag c.args.loose.now.items (none_for c.args.table.now c.args.unit c.args.loose.now.items (sym c.has_events.ensures ∙ c.if-has_events.false)))

pub returns-clause-least : goal.returns-clause-least
returns-clause-least c =
    let table = c.args.table.now in
    let unit = c.args.unit in
    let lines = all_of c.take_from_lines.new.lines in
    c.take_from_lines.ensures.least
    ∙ sym (least_none table unit (least_from table unit None lines) c.args.loose.now.items (none_for table unit c.args.loose.now.items (sym c.has_events.ensures ∙ c.if-has_events.false)))
    ∙ sym (least_append table unit None lines c.args.loose.now.items)
