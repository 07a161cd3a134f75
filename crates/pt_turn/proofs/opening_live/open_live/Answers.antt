use Rattle.std.proofs.Common.{rules, ◌≡◌, ◌∙◌, ◌+◌, ◌++◌, ◌∷◌, [], length, map, ap, sym, subst}
use Rattle.std.specs.Arc.{arc_value}
use Rattle.pt_types.specs.declared.graph.Graph.{Graph}
use Rattle.pt_offsets.specs.Plans.{Parts}
use Rattle.pt_turn.specs.Handed.{AreHanded, unentered}
use Rattle.pt_turn.specs.Live.{empty_entries}
use Rattle.pt_turn.proofs.Live.{AreLive, live_ready, live_sensors, may_open_empty, one_live}
use Rattle.pt_turn.proofs.opening_live.open_live.Goals as goal

pub open-requires : goal.open-requires
open-requires c =
    let plan : Parts = arc_value c.args.plan.now in
    let graph : c.graph-graph.result.now ≡ plan.graph = c.graph-graph.ensures.value ∙ ap (λ (p : Parts). p.graph) c.deref.ensures in
    let shared : arc_value c.in_ok-plan.plan ≡ plan = search rules in
    let rows : c.in_ok-rows.rows.items ≡ empty_entries plan.graph c.loop-number.number = subst (λ (g : Graph). c.in_ok-rows.rows.items ≡ empty_entries g c.loop-number.number) graph c.in_ok-rows.ensures in
    subst (λ (p : Parts). AreHanded p.graph c.loop-number.number c.in_ok-rows.rows.items) (sym shared)
    (subst (AreHanded plan.graph c.loop-number.number) (sym rows) (may_open_empty plan.graph c.loop-number.number))

pub loop-number-preserved : goal.loop-number-preserved
loop-number-preserved c =
    let plan : Parts = arc_value c.args.plan.now in
    let graph : c.graph-graph.result.now ≡ plan.graph = c.graph-graph.ensures.value ∙ ap (λ (p : Parts). p.graph) c.deref.ensures in
    let shared : arc_value c.in_ok-plan.plan ≡ plan = search rules in
    let rows : c.in_ok-rows.rows.items ≡ empty_entries plan.graph c.loop-number.number = subst (λ (g : Graph). c.in_ok-rows.rows.items ≡ empty_entries g c.loop-number.number) graph c.in_ok-rows.ensures in
    let pushed : c.push.new.self.items ≡ c.loop-number.platforms.items ++ c.in_ok-platform.platform ∷ [] = search rules in
    subst (AreLive plan (c.loop-number.number + 1)) (sym pushed)
    (one_live plan c.loop-number.number c.loop-number.platforms.items c.in_ok-platform.platform c.loop-number.invariant (record {
      plan_is = c.in_ok-platform.ensures.plan ∙ shared;
      number = c.in_ok-platform.ensures.number;
      sensors = c.in_ok-platform.ensures.sensors ∙ ap (map unentered) rows;
      turns = c.in_ok-platform.ensures.turns;
      fault = c.in_ok-platform.ensures.new.0;
    }))

pub returns-clause-ready : goal.returns-clause-ready
returns-clause-ready c =
    let plan : Parts = arc_value c.args.plan.now in
    let graph : c.graph-graph.result.now ≡ plan.graph = c.graph-graph.ensures.value ∙ ap (λ (p : Parts). p.graph) c.deref.ensures in
    let whole : c.loop-number.number ≡ length plan.graph.platforms = search rules in
    live_ready plan c.loop-number.number c.loop-number.platforms.items c.loop-number.invariant whole

pub returns-clause-sensors : goal.returns-clause-sensors
returns-clause-sensors c = live_sensors (arc_value c.args.plan.now) c.loop-number.number c.loop-number.platforms.items c.loop-number.invariant
