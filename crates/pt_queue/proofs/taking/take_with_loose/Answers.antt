use Rattle.std.proofs.Common.{None, sym, ap, ◌∙◌}
use Rattle.pt_queue.specs.Lines.{all_of}
use Rattle.pt_queue.specs.Scans.{least_from}
use Rattle.pt_queue.proofs.Soonest.{least_append}
use Rattle.pt_queue.proofs.taking.take_with_loose.Goals as goal

pub returns-clause-least : goal.returns-clause-least
returns-clause-least c =
    c.least_among.ensures
    ∙ ap (λ best. least_from c.args.table.now c.args.unit best c.remove_some.new.events.items) c.take_from_lines-least.ensures.least
    ∙ sym (least_append c.args.table.now c.args.unit None (all_of c.take_from_lines-least.new.lines) c.remove_some.new.events.items)
