use Rattle.std.proofs.Common.{◌≡◌, ◌≤◌, [], length, sym, ap, subst, ◌∙◌, arith}
use Rattle.pt_semantics.specs.Entering.{all_due}
use Rattle.pt_turn.specs.Fields.State.{left_in}
use Rattle.pt_turn.specs.declared.platform.Platform.TheInside.{Inside}
use Rattle.pt_turn.specs.Platforms.{PlatformView, platform_graph, raised_to}
use Rattle.pt_turn.proofs.NoRows.{none_due}
use Rattle.pt_turn.proofs.platform.Platform.room.Goals as goal

pub room_with-requires : goal.room_with-requires
room_with-requires c =
    let p : Inside = c.self.inside in
    let none : all_due (platform_graph p) c.raised_to.result (left_in p.progress.fields.sensors.items) ≡ [] = none_due (platform_graph p) c.raised_to.result (left_in p.progress.fields.sensors.items) (λ a. c.self.invariant.next_row c.raised_to.result a c.if-raised_to-self.true) in
    let count : length (all_due (platform_graph p) (raised_to p.progress.fields.reading c.args.room.reading) (left_in p.progress.fields.sensors.items)) ≡ 0 = ap (λ r. length (all_due (platform_graph p) r (left_in p.progress.fields.sensors.items))) (sym c.raised_to.ensures) ∙ ap length none in
    record { rows = subst (λ (v : PlatformView). length (all_due v.plan.graph (raised_to v.reading c.args.room.reading) (left_in v.sensors)) ≤ 0) c.self.view_is (omega (arith, count)) }
