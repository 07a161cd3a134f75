use Rattle.std.proofs.Common.{◌≡◌, ◌<◌, ◌∙◌, ◌∷◌, [], MatchOption, length, sym, ap, subst, arith}
use Rattle.pt_semantics.specs.Closing.{on_link}
use Rattle.pt_turn.specs.Fields.Outbox.{OutboxView}
use Rattle.pt_turn.proofs.Fields.Queues.{PopIs, first_within, none_queued_on, past_read, popped_is, there}
use Rattle.pt_turn.proofs.state.outbox.Outbox.pop.Goals as goal

pub returns-in_err-queue-clause-first : goal.returns-in_err-queue-clause-first
returns-in_err-queue-clause-first c =
    let none : on_link c.args.link c.args.self.now.items ≡ [] = ap (λ (v : OutboxView). on_link c.args.link v.items) (sym {A = OutboxView} c.self.view_is) ∙ past_read c.self.inside.slots.items c.self.inside.queues.items c.deref.result.now c.args.link c.deref.ensures.value c.in_err-queue.ensures.lookup.0 in
    subst (λ o. MatchOption o (on_link c.args.link c.args.self.now.items ≡ []) (λ message. on_link c.args.link c.args.self.now.items ≡ message ∷ on_link c.args.link c.args.self.now.items)) (sym c.from_residual.ensures) none

pub returns-then-queue-eq0-clause-first : goal.returns-then-queue-eq0-clause-first
returns-then-queue-eq0-clause-first c =
    let at = there c.self.inside.queues.items c.deref.result.now c.args.link c.in_ok-queue.field-0.now c.deref.ensures.value c.in_ok-queue.ensures.lookup.0 c.in_ok-queue.ensures.lookup.1 in
    ap (λ (v : OutboxView). on_link c.args.link v.items) (sym {A = OutboxView} c.self.view_is) ∙ none_queued_on c.self.inside.slots.items c.self.inside.queues.items c.args.link c.in_ok-queue.field-0.now at.1 c.if-queue-eq0.true

pub index-slot-requires : goal.index-slot-requires
index-slot-requires c =
    let at = there c.self.inside.queues.items c.deref.result.now c.args.link c.in_ok-queue.field-0.now c.deref.ensures.value c.in_ok-queue.ensures.lookup.0 c.in_ok-queue.ensures.lookup.1 in
    let below : c.in_ok-queue.field-0.now.first < length c.self.inside.slots.items = first_within c.self.inside.slots.items c.self.inside.queues.items c.args.link c.in_ok-queue.field-0.now c.self.invariant.0 at.1 c.if-queue-eq0.false in
    omega (arith, below, c.self.inside.slots.ok.0)

pub index_mut-requires : goal.index_mut-requires
index_mut-requires c =
    let at = there c.self.inside.queues.items c.deref.result.now c.args.link c.in_ok-queue.field-0.now c.deref.ensures.value c.in_ok-queue.ensures.lookup.0 c.in_ok-queue.ensures.lookup.1 in
    let below : c.in_ok-queue.field-0.now.first < length c.self.inside.slots.items = first_within c.self.inside.slots.items c.self.inside.queues.items c.args.link c.in_ok-queue.field-0.now c.self.invariant.0 at.1 c.if-queue-eq0.false in
    omega (arith, below, c.self.inside.slots.ok.0)

is : (c : goal.After-self-3-1) → PopIs c.self.inside.slots.items c.self.inside.queues.items c.args.link c.self.inside.free.first c.in_ok-queue.field-0.now c.index-slot.result.now
is c =
    let at = there c.self.inside.queues.items c.deref.result.now c.args.link c.in_ok-queue.field-0.now c.deref.ensures.value c.in_ok-queue.ensures.lookup.0 c.in_ok-queue.ensures.lookup.1 in
    popped_is c.self.inside.slots.items c.self.inside.queues.items c.args.link c.self.inside.free.first c.in_ok-queue.field-0.now c.index-slot.result.now at.0 c.self.invariant.0 at.1 c.if-queue-eq0.false c.index-slot.ensures

pub invariant_of-self : goal.invariant_of-self
invariant_of-self c = ((is c).queues, (is c).frees c.self.inside.free.count c.self.invariant.1, omega (arith, (is c).len, c.self.invariant.2), omega (arith, c.self.invariant.3))

pub returns-clause-first : goal.returns-clause-first
returns-clause-first c = ap (λ (v : OutboxView). on_link c.args.link v.items) (sym {A = OutboxView} c.self.view_is) ∙ (is c).first

pub returns-clause-others : goal.returns-clause-others
returns-clause-others c = λ l ne. (is c).others l ne ∙ ap (λ (v : OutboxView). on_link l v.items) c.self.view_is

pub returns-clause-len : goal.returns-clause-len
returns-clause-len c = (is c).len ∙ ap (λ (v : OutboxView). length v.items) c.self.view_is
