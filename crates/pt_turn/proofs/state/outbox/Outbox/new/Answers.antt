use Rattle.std.proofs.Common.{◌≡◌, ◌∙◌, [], length, replicate, sym, ap, subst, arith}
use Rattle.std.proofs.lemmas.List.{length-replicate}
use Rattle.pt_turn.specs.Fields.Outbox.{items_of}
use Rattle.pt_turn.specs.Fields.Slots.{AreQueues, no_chain}
use Rattle.pt_turn.proofs.Fields.Queues.{none_in, none_queued}
use Rattle.pt_turn.proofs.state.outbox.Outbox.new.Goals as goal

queues : (c : goal.In_ok-vec) → c.in_ok-vec.field-0.items ≡ replicate c.args.links no_chain
queues c = c.in_ok-vec.ensures.items_if_clones_equal (λ y e. e)

items : (c : goal.In_ok-vec) → items_of c.new.result.items c.in_ok-vec.field-0.items ≡ []
items c = ap (items_of c.new.result.items) (queues c) ∙ none_in c.new.result.items c.args.links

pub invariant_of-result : goal.invariant_of-result
invariant_of-result c = (
  subst (AreQueues c.new.result.items) (sym (queues c)) (none_queued c.new.result.items c.args.links),
  tt,
  omega (arith, ap length (items c), c.new.ensures.len),
  omega (arith, c.new.ensures.len),
)

pub returns : goal.returns
returns c = record {
  empty = λ i. record {
    items = items c i;
    links = (ap length (queues c) ∙ length-replicate c.args.links no_chain) i;
    spare = 0;
  };
}
