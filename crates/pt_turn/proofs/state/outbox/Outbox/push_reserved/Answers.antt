use Rattle.std.proofs.Common.{◌≡◌, ◌<◌, ◌≤◌, ◌+◌, ◌++◌, ◌∷◌, ◌==◌, ◌∙◌, [], length, get_or, sym, ap, subst, arith, if◌then◌else◌}
use Rattle.std.proofs.lemmas.List.{get_or_default}
use Rattle.pt_semantics.specs.Closing.{on_link}
use Rattle.pt_turn.specs.Fields.Outbox.{OutboxView, items_of}
use Rattle.pt_turn.specs.declared.state.slots.Chain.{Chain}
use Rattle.pt_turn.specs.Fields.Slots.{no_chain}
use Rattle.pt_turn.proofs.Fields.Queues.{PushIs, count_within, last_there, push_is}
use Rattle.pt_turn.proofs.state.outbox.Outbox.push_reserved.Goals as goal

below : (c : goal.After-join-arg-1) → c.args.link < length c.self.inside.queues.items
below c = subst (λ (v : OutboxView). c.args.link < v.links) (sym {A = OutboxView} c.self.view_is) c.requires.link

at : (c : goal.After-join-arg-1) → c.index-queue.result.now ≡ get_or c.self.inside.queues.items c.args.link no_chain
at c = c.index-queue.ensures ∙ get_or_default c.self.inside.queues.items c.args.link c.index-queue.result.now no_chain (below c)

pub join-requires-clause-last : goal.join-requires-clause-last
join-requires-clause-last c = last_there c.self.inside.slots.items c.put-place.new.slots.items c.self.inside.queues.items c.args.link c.index-queue.result.now c.self.invariant.0 (at c) c.put-place.ensures.others

pub join-requires-clause-few : goal.join-requires-clause-few
join-requires-clause-few c =
    let few : c.index-queue.result.now.count ≤ length (items_of c.self.inside.slots.items c.self.inside.queues.items) = subst (λ (q : Chain). q.count ≤ length (items_of c.self.inside.slots.items c.self.inside.queues.items)) (sym (at c)) (count_within c.self.inside.slots.items c.self.inside.queues.items c.args.link) in
    omega (arith, few, c.self.invariant.2, c.put-place.ensures.len)

is : (c : goal.After-self-2-1) → PushIs c.self.inside.slots.items c.put-place.new.slots.items c.join.new.slots.items c.self.inside.queues.items c.args.link c.args.message c.join.result
is c =
    let lt : c.args.link < length c.self.inside.queues.items = subst (λ (v : OutboxView). c.args.link < v.links) (sym {A = OutboxView} c.self.view_is) c.requires.link in
    push_is c.self.inside.slots.items c.put-place.new.slots.items c.join.new.slots.items c.self.inside.queues.items c.args.link c.put-place.result c.args.message c.index-queue.result.now c.join.result
    lt c.self.invariant.0 (c.index-queue.ensures ∙ get_or_default c.self.inside.queues.items c.args.link c.index-queue.result.now no_chain lt) c.put-place.ensures.placed c.put-place.ensures.others c.put-place.ensures.apart c.join.ensures.slots c.join.ensures.queue

pub invariant_of-self : goal.invariant_of-self
invariant_of-self c =
    let spare : 0 < c.self.inside.spare = subst (λ (v : OutboxView). 0 < v.spare) (sym {A = OutboxView} c.self.view_is) c.requires.spare in (
      (is c).queues,
      (is c).frees c.put-place.new.free.first c.put-place.new.free.count c.put-place.ensures.free,
      omega (arith, (is c).len, c.self.invariant.2, c.put-place.ensures.len, c.join.ensures.len),
      omega (arith, spare, c.self.invariant.3, c.put-place.ensures.len, c.put-place.ensures.capacity, c.join.ensures.len, c.join.ensures.capacity),
    )

pub returns-clause-messages : goal.returns-clause-messages
returns-clause-messages c = λ l.
    (is c).messages l ∙ ap (λ (v : OutboxView). on_link l v.items ++ (if l == c.args.link then c.args.message ∷ [] else [])) c.self.view_is

pub returns-clause-len : goal.returns-clause-len
returns-clause-len c = (is c).len ∙ ap (λ (v : OutboxView). length v.items + 1) c.self.view_is
