use Rattle.std.proofs.Common.{◌≡◌, None, Some, sym, subst, ap, ◌∙◌}
use Rattle.std.specs.Prelude.{position}
use Rattle.pt_types.specs.declared.graph.Graph.{Graph}
use Rattle.pt_types.specs.Lookups.{platform_of}
use Rattle.std.proofs.lemmas.List.Quantifiers.{position-Some}
use Rattle.pt_offsets.specs.Plans.{Parts}
use Rattle.pt_turn.specs.Arrives.Arrived.{IsNext, ShowsUnfit, is_of}
use Rattle.pt_turn.specs.Arrived.{HasSensor, MayArriveAt, ShowsRefused}
use Rattle.pt_turn.specs.declared.platform.Platform.TheInside.{Inside}
use Rattle.pt_turn.specs.Platforms.{PlatformView, platform_graph}
use Rattle.pt_turn.proofs.MoreRows.{in_order, may_at, no_sensor, why_not}
use Rattle.pt_turn.proofs.platform.Platform.place_for.Goals as goal

pub returns-in_default-clause-why : goal.returns-in_default-clause-why
returns-in_default-clause-why c =
    let p : Inside = c.self.inside in
    let none : position (is_of c.args.sensor) p.progress.fields.sensors.items ≡ None = ap (position (is_of c.args.sensor)) (sym c.as_slice.ensures.value) ∙ sym c.place_of.ensures ∙ c.in_default.is in
    subst (λ (v : PlatformView). HasSensor v c.args.sensor → ⊥) c.self.view_is (no_sensor p c.args.sensor none)

pub test-requires : goal.test-requires
test-requires c =
    let p : Inside = c.self.inside in
    let found : position (is_of c.args.sensor) p.progress.fields.sensors.items ≡ Some c.in-Some.place = ap (position (is_of c.args.sensor)) (sym c.as_slice.ensures.value) ∙ sym c.place_of.ensures ∙ c.in-Some.is in
    record { order = in_order p c.in-Some.place c.index-sensor.result.now c.self.invariant (position-Some (is_of c.args.sensor) p.progress.fields.sensors.items c.in-Some.place c.index-sensor.result.now found).0 c.index-sensor.ensures }

pub returns-in-Ok-clause-may : goal.returns-in-Ok-clause-may
returns-in-Ok-clause-may c =
    let p : Inside = c.self.inside in
    let graph : c.graph-graph.result.now ≡ platform_graph p = c.graph-graph.ensures.value ∙ ap (λ (plan : Parts). plan.graph) c.deref.ensures in
    let found : position (is_of c.args.sensor) p.progress.fields.sensors.items ≡ Some c.in-Some.place = ap (position (is_of c.args.sensor)) (sym c.as_slice.ensures.value) ∙ sym c.place_of.ensures ∙ c.in-Some.is in
    let home : platform_of (platform_graph p) c.args.sensor ≡ p.number = ap (λ (g : Graph). platform_of g c.args.sensor) (sym graph) ∙ sym c.platform_of.ensures ∙ c.if-platform_of-self.false in
    let next : IsNext (platform_graph p) c.index-sensor.result.now.actor c.index-sensor.result.now.rows p.progress.fields.reading c.args.row = subst (λ g. IsNext g c.index-sensor.result.now.actor c.index-sensor.result.now.rows p.progress.fields.reading c.args.row) graph c.in-Ok.ensures.next in
    subst (λ (v : PlatformView). MayArriveAt v c.args.sensor c.args.row c.in-Some.place) c.self.view_is (may_at p c.args.sensor c.in-Some.place c.args.row c.index-sensor.result.now c.self.invariant found c.index-sensor.ensures home next)

pub returns-in-Err-clause-why : goal.returns-in-Err-clause-why
returns-in-Err-clause-why c =
    let p : Inside = c.self.inside in
    let graph : c.graph-graph.result.now ≡ platform_graph p = c.graph-graph.ensures.value ∙ ap (λ (plan : Parts). plan.graph) c.deref.ensures in
    let found : position (is_of c.args.sensor) p.progress.fields.sensors.items ≡ Some c.in-Some.place = ap (position (is_of c.args.sensor)) (sym c.as_slice.ensures.value) ∙ sym c.place_of.ensures ∙ c.in-Some.is in
    let shown : ShowsUnfit (platform_graph p) c.index-sensor.result.now.actor c.index-sensor.result.now.rows p.progress.fields.reading c.args.row c.in-Err.why = subst (λ g. ShowsUnfit g c.index-sensor.result.now.actor c.index-sensor.result.now.rows p.progress.fields.reading c.args.row c.in-Err.why) graph c.in-Err.ensures.why in
    subst (λ (v : PlatformView). ShowsRefused v c.args.sensor c.args.row c.in-Err.why) c.self.view_is (why_not p c.args.sensor c.in-Some.place c.args.row c.index-sensor.result.now c.in-Err.why c.self.invariant found c.index-sensor.ensures shown)
