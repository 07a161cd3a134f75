use Rattle.std.proofs.Common.{◌≡◌, Some, ap, refl, sym, subst, ◌∙◌, arith, rules, add-one}
use Rattle.pt_causality.specs.Delays.{IsUnit}
use Rattle.pt_semantics.specs.Platform.{put_busy}
use Rattle.pt_semantics.specs.Units.{at_input, first_port, unit_of}
use Rattle.pt_turn.specs.declared.state.fields.OpenClaim.{OpenClaim}
use Rattle.pt_turn.specs.Fields.State.{busy_in, states_in, left_in}
use Rattle.pt_semantics.specs.Closing.{on_link}
use Rattle.pt_laws.proofs.Candidates.{unit_is}
use Rattle.pt_semantics.proofs.Claiming.{without_found}
use Rattle.pt_queue.specs.Events.{waiting_in}
use Rattle.pt_queue.specs.Groups.{AreGroups}
use Rattle.pt_turn.proofs.claim.claiming.claim.Goals as goal

pub overflow_add-fields : goal.overflow_add-fields
overflow_add-fields c = omega (arith, c.requires.claims, c.show_admitted.ensures.lawful.few_claims)

pub returns-clause-task : goal.returns-clause-task
returns-clause-task c =
    let inputs = c.take.ensures.inputs c.args.plan.now.graph c.requires.sound.groups in
    record {
      unit = ap (λ xs. at_input c.args.plan.now.graph c.args.next.unit.actor (first_port xs)) inputs
          ∙ unit_is c.args.plan.now.graph (waiting_in c.args.fields.now.queue.events) c.args.next.unit c.args.next.tag c.requires.event;
      actor = refl;
      tag = refl;
      inputs = inputs;
      state = search rules;
      number = refl;
    }

pub returns-clause-after : goal.returns-clause-after
returns-clause-after c = λ taken.
    let busy = c.add.ensures.busy ∙ ap (λ (o : OpenClaim). put_busy (busy_in c.args.fields.now.open_claims.items) o.unit (Some o.task)) c.open_claim.ensures in
    let waits = c.take.ensures.waits c.args.plan.now.graph c.requires.sound.groups in
    λ i. record {
      waits = waits i;
      busy = busy i;
      states = states_in c.args.fields.now.states.items;
      left = left_in c.args.fields.now.sensors.items;
      outbox = λ l. on_link l c.args.fields.now.outbox.items;
      taken = λ l. on_link l taken;
      reading = c.args.fields.now.reading;
      closed = c.args.fields.now.closed;
      claims = add-one c.args.fields.now.claims i;
    }

pub returns-clause-sound : goal.returns-clause-sound
returns-clause-sound c =
    let g = c.args.plan.now.graph in
    let old = waiting_in c.args.fields.now.queue.events in
    let unit = ap (λ xs. at_input g c.args.next.unit.actor (first_port xs)) (c.take.ensures.inputs g c.requires.sound.groups) ∙ unit_is g old c.args.next.unit c.args.next.tag c.requires.event in
    let waits = c.take.ensures.waits g c.requires.sound.groups in
    record {
      groups = subst (AreGroups g) (sym c.take.ensures.groups) c.requires.sound.groups;
      states = c.requires.sound.states;
      open_claims = c.add.ensures.open_claims g c.requires.sound.open_claims
          (subst (λ (o : OpenClaim). o.unit ≡ unit_of g o.task) (sym c.open_claim.ensures) (sym unit))
          (subst (λ (o : OpenClaim). IsUnit g o.unit) (sym c.open_claim.ensures) c.requires.unit);
      links = c.requires.sound.links;
      at_units = λ a p t v there. c.requires.sound.at_units a p t v (without_found g old c.args.next.unit c.args.next.tag a p t v (sym (ap (λ f. f a p t) waits) ∙ there)).0;
      none_safe = λ r lt. absurd (omega (arith, lt));
    }
