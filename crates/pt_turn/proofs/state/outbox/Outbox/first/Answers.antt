use Rattle.std.proofs.Common.{List, ◌<◌, ◌∙◌, length, slice_get, sym, ap, arith}
use Rattle.pt_semantics.specs.Closing.{on_link}
use Rattle.pt_tags.specs.declared.message.Message.{Message}
use Rattle.pt_turn.specs.Fields.Outbox.{OutboxView}
use Rattle.pt_turn.proofs.Fields.Queues.{first_is, first_within, none_queued_on, past_read, there}
use Rattle.pt_turn.proofs.state.outbox.Outbox.first.Goals as goal

pub returns-in_err-queue : goal.returns-in_err-queue
returns-in_err-queue c =
    c.from_residual.ensures ∙ ap (λ (ms : List Message). slice_get ms 0) (sym (past_read c.self.inside.slots.items c.self.inside.queues.items c.deref.result.now c.args.link c.deref.ensures.value c.in_err-queue.ensures.lookup.0))
    ∙ ap (λ (v : OutboxView). slice_get (on_link c.args.link v.items) 0) c.self.view_is

pub returns-then-queue-eq0 : goal.returns-then-queue-eq0
returns-then-queue-eq0 c =
    let at = there c.self.inside.queues.items c.deref.result.now c.args.link c.in_ok-queue.queue.now c.deref.ensures.value c.in_ok-queue.ensures.lookup.0 c.in_ok-queue.ensures.lookup.1 in
    ap (λ (ms : List Message). slice_get ms 0) (sym (none_queued_on c.self.inside.slots.items c.self.inside.queues.items c.args.link c.in_ok-queue.queue.now at.1 c.if-queue-eq0.true))
    ∙ ap (λ (v : OutboxView). slice_get (on_link c.args.link v.items) 0) c.self.view_is

pub index-requires : goal.index-requires
index-requires c =
    let at = there c.self.inside.queues.items c.deref.result.now c.args.link c.in_ok-queue.queue.now c.deref.ensures.value c.in_ok-queue.ensures.lookup.0 c.in_ok-queue.ensures.lookup.1 in
    let below : c.in_ok-queue.queue.now.first < length c.self.inside.slots.items = first_within c.self.inside.slots.items c.self.inside.queues.items c.args.link c.in_ok-queue.queue.now c.self.invariant.0 at.1 c.if-queue-eq0.false in
    omega (arith, below, c.self.inside.slots.ok.0)

pub returns : goal.returns
returns c =
    let at = there c.self.inside.queues.items c.deref.result.now c.args.link c.in_ok-queue.queue.now c.deref.ensures.value c.in_ok-queue.ensures.lookup.0 c.in_ok-queue.ensures.lookup.1 in
    first_is c.self.inside.slots.items c.self.inside.queues.items c.args.link c.in_ok-queue.queue.now c.index.result.now c.self.invariant.0 at.1 c.if-queue-eq0.false c.index.ensures
    ∙ ap (λ (v : OutboxView). slice_get (on_link c.args.link v.items) 0) c.self.view_is
