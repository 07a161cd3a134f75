use Rattle.std.proofs.Common.{true, sym, ◌∙◌, refl, inl, inr}
use Rattle.std.proofs.lemmas.Bool.{false≢true}
use Rattle.pt_semantics.specs.Closing.{on_link}
use Rattle.pt_queue.specs.Events.{waiting_in}
use Rattle.pt_turn.specs.Fields.State.{busy_in, states_in, left_in}
use Rattle.pt_turn.proofs.close.closing.close.Goals as goal

pub returns-then-not-can_close-clause-closes : goal.returns-then-not-can_close-clause-closes
returns-then-not-can_close-clause-closes c = λ taken.
    inr (λ can. absurd (false≢true (sym c.if-not-can_close.true ∙ (c.can_close.ensures c.args.graph.now c.args.number taken c.requires.closing).1 can)), refl)

pub returns-clause-closes : goal.returns-clause-closes
returns-clause-closes c = λ taken.
    inl (
      (c.can_close.ensures c.args.graph.now c.args.number taken c.requires.closing).0 c.if-not-can_close.false,
      c.if-late.false,
      λ i. record {
        closed = true;
        outbox = λ l. c.shut_links.ensures.ends l i;
        waits = waiting_in c.args.fields.now.queue.events;
        busy = busy_in c.args.fields.now.open_claims.items;
        states = states_in c.args.fields.now.states.items;
        left = left_in c.args.fields.now.sensors.items;
        taken = λ l. on_link l taken;
        reading = c.args.fields.now.reading;
        claims = c.args.fields.now.claims;
      },
    )
