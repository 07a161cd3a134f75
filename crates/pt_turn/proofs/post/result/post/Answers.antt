use Rattle.std.proofs.Common.{◌≡◌, ◌<◌, ◌≤◌, ◌+◌, arith, length, ℕ, ℤ, Some, None, ap, sym, subst, refl, ◌∙◌, rules}
use Rattle.std.proofs.lemmas.Bool.{false≢true}
use Rattle.pt_types.specs.declared.graph.Unit.{Unit}
use Rattle.pt_semantics.specs.Edges.{wires}
use Rattle.pt_semantics.specs.Meaning.{Values, added, going, put_state}
use Rattle.pt_semantics.specs.Units.{at_input, unit_of, leaves_unit}
use Rattle.pt_semantics.specs.Platform.{put_busy}
use Rattle.pt_semantics.specs.Closing.{on_link}
use Rattle.pt_semantics.specs.Floor.{NothingThere}
use Rattle.pt_queue.specs.Events.{waiting_in}
use Rattle.pt_queue.specs.Groups.{AreGroups}
use Rattle.pt_turn.specs.Fields.State.{busy_in, states_in, left_in}
use Rattle.pt_turn.proofs.Fields.ClaimLists.{found_is, not_found}
use Rattle.pt_turn.specs.Posts.Sent.{SumsFit}
use Rattle.pt_causality.specs.Units.{IsUnit}
use Rattle.pt_types.specs.declared.graph.Graph.{Graph}
use Rattle.pt_tags.specs.declared.tag.Tag.{Tag}
use Rattle.pt_turn.specs.Posts.Room.{leaving, leaving_open}
use Rattle.pt_turn.proofs.Posts.Counted.{closed_less}
use Rattle.pt_turn.proofs.Posts.Going.{going_units, added_units}
use Rattle.pt_turn.proofs.Posts.Opens.{found_actor}
use Rattle.pt_turn.proofs.post.result.post.Goals as goal

abbrev AtUnits : Graph → Values → Type 0
AtUnits g values = (a p : ℕ) (t : Tag) (v : ℤ) → values a p t ≡ Some v → IsUnit g (at_input g a p)

pub emit-requires-clause-fits : goal.emit-requires-clause-fits
emit-requires-clause-fits c =
    let found = found_is c.args.graph.now c.args.fields.now.open_claims.items c.args.done.now.task c.in-Some.unit c.requires.sound.open_claims c.in-Some.ensures.found in
    subst (λ (u : Unit). SumsFit c.args.graph.now u.actor c.args.done.now.task.tag) (sym found.0) (c.requires.fits found.1)

pub emit-requires-clause-absent : goal.emit-requires-clause-absent
emit-requires-clause-absent c =
    let found = found_is c.args.graph.now c.args.fields.now.open_claims.items c.args.done.now.task c.in-Some.unit c.requires.sound.open_claims c.in-Some.ensures.found in
    subst (λ (u : Unit). NothingThere (waiting_in c.args.fields.now.queue.events) (going c.args.graph.now (wires c.args.graph.now) (leaves_unit c.args.graph.now u) c.args.done.now.task.tag c.args.done.now.fired.outputs)) (sym found.0) (c.requires.absent found.1)

pub set_state-requires : goal.set_state-requires
set_state-requires c =
    let actor : c.args.done.now.task.actor < length c.args.graph.now.actors = found_actor c.args.graph.now c.args.fields.now.open_claims.items c.args.done.now.task c.in-Some.unit c.requires.sound.open_claims c.in-Some.ensures.found in
    record { actor = subst (λ n. c.args.done.now.task.actor < n) (sym c.requires.sound.states) actor }

pub send-requires-clause-actor : goal.send-requires-clause-actor
send-requires-clause-actor c = found_actor c.args.graph.now c.args.fields.now.open_claims.items c.args.done.now.task c.in-Some.unit c.requires.sound.open_claims c.in-Some.ensures.found

pub returns-in-None-clause-claimed : goal.returns-in-None-clause-claimed
returns-in-None-clause-claimed c = (
  λ e. absurd (false≢true e),
  λ h. absurd (not_found c.args.graph.now c.args.fields.now.open_claims.items c.args.done.now.task c.in-None.ensures.found h),
)

pub returns-in-Some-clause-sound : goal.returns-in-Some-clause-sound
returns-in-Some-clause-sound c = record {
  groups = subst (AreGroups c.args.graph.now) (sym c.emit.ensures.groups) c.requires.sound.groups;
  states = c.set_state.ensures.len ∙ c.requires.sound.states;
  open_claims = c.take.ensures.open_claims c.args.graph.now c.requires.sound.open_claims;
  links = c.send.ensures.links ∙ c.requires.sound.links;
  at_units = subst (AtUnits c.args.graph.now) (sym c.emit.ensures.waits) (added_units c.args.graph.now (waiting_in c.args.fields.now.queue.events) _ c.requires.sound.at_units (going_units c.args.graph.now (leaves_unit c.args.graph.now c.in-Some.unit) c.args.done.now.task.tag c.args.done.now.fired.outputs c.requires.wired));
  none_safe = λ r lt. absurd (omega (arith, lt));
}

pub returns-in-Some-clause-claimed : goal.returns-in-Some-clause-claimed
returns-in-Some-clause-claimed c =
    let found = found_is c.args.graph.now c.args.fields.now.open_claims.items c.args.done.now.task c.in-Some.unit c.requires.sound.open_claims c.in-Some.ensures.found in
    (λ e. found.1, λ e. refl)

pub returns-in-Some-clause-posted : goal.returns-in-Some-clause-posted
returns-in-Some-clause-posted c = λ e taken.
    let found = found_is c.args.graph.now c.args.fields.now.open_claims.items c.args.done.now.task c.in-Some.unit c.requires.sound.open_claims c.in-Some.ensures.found in
    let waits = c.emit.ensures.waits ∙ ap (λ u. added (waiting_in c.args.fields.now.queue.events) (going c.args.graph.now (wires c.args.graph.now) (leaves_unit c.args.graph.now u) c.args.done.now.task.tag c.args.done.now.fired.outputs)) found.0 in
    let busy = c.in-Some.ensures.busy ∙ ap (λ u. put_busy (busy_in c.args.fields.now.open_claims.items) u None) found.0 in
    let states : states_in c.set_state.new.states.items ≡ put_state (states_in c.args.fields.now.states.items) c.args.done.now.task.actor c.args.done.now.fired.state = search rules in
    λ i. record {
      waits = waits i;
      busy = busy i;
      states = states i;
      left = left_in c.args.fields.now.sensors.items;
      outbox = λ l. c.send.ensures.sent l i;
      taken = λ l. on_link l taken;
      reading = c.args.fields.now.reading;
      closed = c.args.fields.now.closed;
      claims = c.args.fields.now.claims;
    }

pub emit-requires-clause-room : goal.emit-requires-clause-room
emit-requires-clause-room c =
    let found = found_is c.args.graph.now c.args.fields.now.open_claims.items c.args.done.now.task c.in-Some.unit c.requires.sound.open_claims c.in-Some.ensures.found in
    let sum = closed_less c.args.graph.now (busy_in c.args.fields.now.open_claims.items) (unit_of c.args.graph.now c.args.done.now.task) c.args.done.now.task c.args.graph.now.wires found.1 in
    subst (λ (u : Unit). leaving c.args.graph.now u c.args.graph.now.wires ≤ c.args.fields.now.queue.spare) (sym found.0) (omega (arith, sum, c.requires.events))

pub returns-in-Some-clause-events : goal.returns-in-Some-clause-events
returns-in-Some-clause-events c =
    let found = found_is c.args.graph.now c.args.fields.now.open_claims.items c.args.done.now.task c.in-Some.unit c.requires.sound.open_claims c.in-Some.ensures.found in
    let sum = closed_less c.args.graph.now (busy_in c.args.fields.now.open_claims.items) (unit_of c.args.graph.now c.args.done.now.task) c.args.done.now.task c.args.graph.now.wires found.1 in
    let busy = c.in-Some.ensures.busy ∙ ap (λ u. put_busy (busy_in c.args.fields.now.open_claims.items) u None) found.0 in
    let new = ap (λ b. leaving_open c.args.graph.now b c.args.graph.now.wires) busy in
    let spare : c.args.fields.now.queue.spare ≤ c.emit.new.queue.spare + leaving c.args.graph.now (unit_of c.args.graph.now c.args.done.now.task) c.args.graph.now.wires = subst (λ (u : Unit). c.args.fields.now.queue.spare ≤ c.emit.new.queue.spare + leaving c.args.graph.now u c.args.graph.now.wires) found.0 c.emit.ensures.spare in
    omega (arith, sum, new, spare)

pub emit-requires-clause-actor : goal.emit-requires-clause-actor
emit-requires-clause-actor c =
    let found = found_is c.args.graph.now c.args.fields.now.open_claims.items c.args.done.now.task c.in-Some.unit c.requires.sound.open_claims c.in-Some.ensures.found in
    let actor : c.args.done.now.task.actor < length c.args.graph.now.actors = found_actor c.args.graph.now c.args.fields.now.open_claims.items c.args.done.now.task c.in-Some.unit c.requires.sound.open_claims c.in-Some.ensures.found in
    subst (λ (u : Unit). u.actor < length c.args.graph.now.actors) (sym found.0) actor
