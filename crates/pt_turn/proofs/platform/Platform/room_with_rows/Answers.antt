use Rattle.std.proofs.Common.{◌≡◌, ◌≤◌, List, length, ap, subst, ◌∙◌, arith}
use Rattle.pt_types.specs.declared.graph.Graph.{Graph}
use Rattle.pt_semantics.specs.Entering.{all_due}
use Rattle.pt_offsets.specs.Plans.{Parts}
use Rattle.pt_turn.specs.declared.state.fields.Sensor.{Sensor}
use Rattle.pt_turn.specs.Fields.State.{left_in}
use Rattle.pt_turn.specs.declared.platform.Platform.TheInside.{Inside}
use Rattle.pt_turn.specs.Platforms.{PlatformView, platform_graph, raised_to}
use Rattle.pt_turn.proofs.platform.Platform.room_with_rows.Goals as goal

pub room_with-requires : goal.room_with-requires
room_with-requires c =
    let p : Inside = c.self.inside in
    let graph : c.graph.result.now ≡ platform_graph p = c.graph.ensures.value ∙ ap (λ (plan : Parts). plan.graph) c.deref.ensures in
    let count : c.in-Some.rows ≡ length (all_due (platform_graph p) (raised_to p.progress.fields.reading c.args.reading) (left_in p.progress.fields.sensors.items)) =
    c.in-Some.ensures
    ∙ ap (λ (g : Graph). length (all_due g c.raised_to-raised.result (left_in c.as_slice.result.now))) graph
    ∙ ap (λ r. length (all_due (platform_graph p) r (left_in c.as_slice.result.now))) c.raised_to-raised.ensures
    ∙ ap (λ (ss : List Sensor). length (all_due (platform_graph p) (raised_to p.progress.fields.reading c.args.reading) (left_in ss))) c.as_slice.ensures.value in
    record { rows = subst (λ (v : PlatformView). length (all_due v.plan.graph (raised_to v.reading c.args.reading) (left_in v.sensors)) ≤ c.in-Some.rows) c.self.view_is (omega (arith, count)) }
