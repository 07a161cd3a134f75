use Rattle.std.proofs.Common.{◌≡◌, length, rules, ap, sym, subst, ◌∙◌, map, refl, None, false}
use Rattle.pt_types.specs.declared.graph.Graph.{Graph}
use Rattle.pt_semantics.specs.Rows.{FitRows}
use Rattle.pt_queue.specs.Events.{waiting_in}
use Rattle.pt_queue.specs.Groups.{AreGroups}
use Rattle.pt_turn.specs.declared.state.fields.Fields.{Fields}
use Rattle.pt_turn.specs.Fields.Outbox.{OutboxView}
use Rattle.pt_turn.specs.Fields.State.{rows_at_sensors}
use Rattle.pt_turn.specs.Fields.Sensors.{AreSensors}
use Rattle.pt_turn.specs.Starting.{first_of_actor, starting}
use Rattle.pt_turn.proofs.HandedIn.{are_sensors, rows_fit, rows_same}
use Rattle.pt_turn.proofs.Opened.{opened_is, sound_is}
use Rattle.pt_turn.proofs.opened_fields.open_fields.Goals as goal

pub returns-clause-opened : goal.returns-clause-opened
returns-clause-opened c =
    let g = c.args.plan.now.graph in
    let handed = c.args.rows.items in
    let f : Fields = record { queue = c.in_ok-queue.queue; open_claims = c.new-2.result; states = c.in_ok-states.states; sensors = c.in_ok-sensors.sensors; outbox = c.in_ok-outbox.outbox; reading = None; closed = false; claims = 0; none_safe_before = 0 } in
    let waits : waiting_in f.queue.events ≡ starting g c.args.platform = c.in_ok-queue.ensures.waits ∙ ap (λ (z : Graph). starting z c.args.platform) c.graph-graph.ensures.value in
    let states : f.states.items ≡ map first_of_actor g.actors = c.in_ok-states.ensures ∙ ap (λ (z : Graph). map first_of_actor z.actors) c.graph-graph.ensures.value in
    opened_is g c.args.platform f handed c.requires waits c.new-2.ensures.items states c.in_ok-sensors.ensures (ap (λ (v : OutboxView). v.items) c.in_ok-outbox.ensures.empty) refl refl refl

pub returns-clause-rows : goal.returns-clause-rows
returns-clause-rows c = ap rows_at_sensors c.in_ok-sensors.ensures ∙ rows_same c.args.rows.items

pub returns-clause-fit : goal.returns-clause-fit
returns-clause-fit c = subst (FitRows c.args.plan.now.graph) (sym (ap rows_at_sensors c.in_ok-sensors.ensures ∙ rows_same c.args.rows.items)) (rows_fit c.args.plan.now.graph c.args.platform c.args.rows.items c.requires)

pub returns-clause-sound : goal.returns-clause-sound
returns-clause-sound c =
    let g = c.args.plan.now.graph in
    let handed = c.args.rows.items in
    let f : Fields = record { queue = c.in_ok-queue.queue; open_claims = c.new-2.result; states = c.in_ok-states.states; sensors = c.in_ok-sensors.sensors; outbox = c.in_ok-outbox.outbox; reading = None; closed = false; claims = 0; none_safe_before = 0 } in
    let waits : waiting_in f.queue.events ≡ starting g c.args.platform = c.in_ok-queue.ensures.waits ∙ ap (λ (z : Graph). starting z c.args.platform) c.graph-graph.ensures.value in
    let states : f.states.items ≡ map first_of_actor g.actors = c.in_ok-states.ensures ∙ ap (λ (z : Graph). map first_of_actor z.actors) c.graph-graph.ensures.value in
    let groups : AreGroups g f.queue.groups = subst (λ (z : Graph). AreGroups z f.queue.groups) c.graph-graph.ensures.value c.in_ok-queue.ensures.groups in
    let links : f.outbox.links ≡ length g.links = ap (λ (v : OutboxView). v.links) c.in_ok-outbox.ensures.empty ∙ search rules in
    sound_is g c.args.platform f groups waits c.new-2.ensures.items states links refl

pub returns-clause-sensors : goal.returns-clause-sensors
returns-clause-sensors c = subst (AreSensors c.args.plan.now.graph) (sym c.in_ok-sensors.ensures) (are_sensors c.args.plan.now.graph c.args.platform c.args.rows.items c.graph-graph.ensures.admitted.lawful c.requires)
