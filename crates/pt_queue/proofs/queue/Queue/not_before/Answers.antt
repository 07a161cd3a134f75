use Rattle.std.proofs.Common.{◌≡◌, ◌≤◌, ◌/◌, ap, subst, sym}
use Rattle.pt_tags.specs.declared.tag.Tag.{Tag}
use Rattle.pt_types.specs.declared.graph.Unit.{Unit}
use Rattle.pt_semantics.specs.Units.{HasEvent}
use Rattle.pt_queue.specs.Groups.{AreGroups}
use Rattle.pt_queue.specs.Events.{Queued, unit_place, waiting_in}
use Rattle.pt_queue.specs.Lines.{all_of, with_events}
use Rattle.pt_queue.proofs.Known.{floor_is}
use Rattle.pt_queue.proofs.Views.{placed_settled}
use Rattle.pt_queue.proofs.queue.Queue.not_before.Goals as goal

pub returns : goal.returns
returns c = λ g are.
    let table = c.self.inside.groups.items in
    let events = all_of (with_events c.self.inside.lines c.self.inside.loose.items) in
    let groups = ap (λ (v : Queued). v.groups) c.self.view_is in
    subst (λ (v : Queued). (u : Unit) (t : Tag) → HasEvent g (waiting_in v.events) u t → unit_place u / 64 ≡ c.args.word → c.not_before.result ≤ t.time) c.self.view_is
    (floor_is g table events c.self.inside.tags (subst (AreGroups g) (sym groups) are) (placed_settled table c.self.inside.lines c.self.inside.loose.items c.self.invariant.0) c.self.invariant.2 c.args.word c.not_before.result c.not_before.ensures)
