use Rattle.std.proofs.Common.{ap, ◌∙◌}
use Rattle.pt_causality.specs.Delays.{least_of}
use Rattle.pt_queue.specs.Tagged.{tag_holds_up}
use Rattle.pt_queue.proofs.blocked.unit_holds_up.Goals as goal

pub returns-in-None : goal.returns-in-None
returns-in-None c = ap (tag_holds_up c.args.table.now (least_of c.args.least.now) c.args.unit c.args.tag c.args.other) c.in-None.ensures

pub returns-in-Some : goal.returns-in-Some
returns-in-Some c = c.holds_up.ensures ∙ ap (tag_holds_up c.args.table.now (least_of c.args.least.now) c.args.unit c.args.tag c.args.other) c.in-Some.ensures
