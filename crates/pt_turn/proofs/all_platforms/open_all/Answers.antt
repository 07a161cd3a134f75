use Rattle.std.proofs.Common.{rules, ◌≡◌, ◌∙◌, ◌+◌, ◌++◌, ◌∷◌, [], filter, filter_map, not, length, sym, ap, subst}
use Rattle.std.specs.Arc.{arc_value}
use Rattle.pt_types.specs.declared.graph.Graph.{Graph}
use Rattle.pt_sensors.specs.declared.sensor_rows.SensorRows.{SensorRows}
use Rattle.pt_offsets.specs.Plans.{Parts}
use Rattle.pt_turn.specs.Handed.{AreHanded}
use Rattle.pt_turn.specs.Sharing.{cut_of, is_entry_on}
use Rattle.pt_turn.proofs.EveryOpened.{AreOpened, all_ready, may_open, one_opened}
use Rattle.pt_turn.proofs.all_platforms.open_all.Goals as goal

pub open-requires : goal.open-requires
open-requires c =
    let plan : Parts = arc_value c.args.plan.now in
    let graph : c.graph-graph.result.now ≡ plan.graph = c.graph-graph.ensures.value ∙ ap (λ (p : Parts). p.graph) c.deref.ensures in
    let shared : arc_value c.in_ok-plan.plan ≡ plan = search rules in
    let own : c.in_ok-own.own.items ≡ filter (is_entry_on plan.graph c.loop-number.number) c.loop-number.rest.items = subst (λ (g : Graph). c.in_ok-own.own.items ≡ filter (is_entry_on g c.loop-number.number) c.loop-number.rest.items) graph c.in_ok-own.ensures.0 in
    let rows : c.in_ok-rows.rows.items ≡ filter_map (cut_of plan.graph) c.in_ok-own.own.items = subst (λ (g : Graph). c.in_ok-rows.rows.items ≡ filter_map (cut_of g) c.in_ok-own.own.items) graph c.in_ok-rows.ensures in
    subst (λ (p : Parts). AreHanded p.graph c.loop-number.number c.in_ok-rows.rows.items) (sym shared)
    (may_open plan c.args.entries.items c.loop-number.rest.items c.in_ok-own.own.items c.in_ok-rows.rows.items c.loop-number.number c.loop-number.platforms.items c.requires.places c.requires.fit c.loop-number.invariant own rows)

pub loop-number-preserved : goal.loop-number-preserved
loop-number-preserved c =
    let plan : Parts = arc_value c.args.plan.now in
    let graph : c.graph-graph.result.now ≡ plan.graph = c.graph-graph.ensures.value ∙ ap (λ (p : Parts). p.graph) c.deref.ensures in
    let shared : arc_value c.in_ok-plan.plan ≡ plan = search rules in
    let own : c.in_ok-own.own.items ≡ filter (is_entry_on plan.graph c.loop-number.number) c.loop-number.rest.items = subst (λ (g : Graph). c.in_ok-own.own.items ≡ filter (is_entry_on g c.loop-number.number) c.loop-number.rest.items) graph c.in_ok-own.ensures.0 in
    let others : c.in_ok-own.others.items ≡ filter (λ (s : SensorRows). not (is_entry_on plan.graph c.loop-number.number s)) c.loop-number.rest.items = subst (λ (g : Graph). c.in_ok-own.others.items ≡ filter (λ (s : SensorRows). not (is_entry_on g c.loop-number.number s)) c.loop-number.rest.items) graph c.in_ok-own.ensures.1 in
    let rows : c.in_ok-rows.rows.items ≡ filter_map (cut_of plan.graph) c.in_ok-own.own.items = subst (λ (g : Graph). c.in_ok-rows.rows.items ≡ filter_map (cut_of g) c.in_ok-own.own.items) graph c.in_ok-rows.ensures in
    let pushed : c.push.new.self.items ≡ c.loop-number.platforms.items ++ c.in_ok-platform.platform ∷ [] = search rules in
    subst (AreOpened plan c.args.entries.items (c.loop-number.number + 1) c.in_ok-own.others.items) (sym pushed)
    (one_opened plan c.args.entries.items c.loop-number.rest.items c.in_ok-own.others.items c.in_ok-own.own.items c.in_ok-rows.rows.items c.loop-number.number c.loop-number.platforms.items c.in_ok-platform.platform
    c.loop-number.invariant own others rows (c.in_ok-platform.ensures.plan ∙ shared) c.in_ok-platform.ensures.number c.in_ok-platform.ensures.rows c.in_ok-platform.ensures.turns c.in_ok-platform.ensures.new.0)

pub returns : goal.returns
returns c =
    let plan : Parts = arc_value c.args.plan.now in
    let graph : c.graph-graph.result.now ≡ plan.graph = c.graph-graph.ensures.value ∙ ap (λ (p : Parts). p.graph) c.deref.ensures in
    let whole : c.loop-number.number ≡ length plan.graph.platforms = search rules in
    all_ready plan c.args.entries.items c.loop-number.rest.items c.loop-number.number c.loop-number.platforms.items c.requires.places c.requires.fit c.loop-number.invariant whole
