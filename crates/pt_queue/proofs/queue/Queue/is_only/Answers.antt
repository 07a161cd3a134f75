use Rattle.std.proofs.Common.{ap, subst, sym}
use Rattle.pt_queue.specs.Groups.{AreGroups}
use Rattle.pt_queue.specs.Events.{IsOnlyUnit, Queued, waiting_in}
use Rattle.pt_queue.specs.Lines.{all_of, with_events}
use Rattle.pt_queue.proofs.Known.{only_is}
use Rattle.pt_queue.proofs.Views.{placed_settled}
use Rattle.pt_queue.proofs.queue.Queue.is_only.Goals as goal

pub returns : goal.returns
returns c = λ g are yes.
    let table = c.self.inside.groups.items in
    let events = all_of (with_events c.self.inside.lines c.self.inside.loose.items) in
    let groups = ap (λ (v : Queued). v.groups) c.self.view_is in
    subst (λ (v : Queued). IsOnlyUnit g (waiting_in v.events) c.args.unit) c.self.view_is
    (only_is g table events c.self.inside.tags (subst (AreGroups g) (sym groups) are) (placed_settled table c.self.inside.lines c.self.inside.loose.items c.self.invariant.0) c.self.invariant.2 c.args.unit (c.is_only.ensures yes))
