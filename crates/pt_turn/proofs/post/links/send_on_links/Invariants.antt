use Rattle.std.proofs.Common.{◌≡◌, ◌≤◌, ◌+◌, ◌++◌, ℕ, take, length, slice_get}
use Rattle.pt_semantics.specs.Closing.{on_link}
use Rattle.pt_semantics.specs.Posting.{message_from}
use Rattle.pt_turn.proofs.post.links.send_on_links.Given as goal

abbrev pub invariant-loop-l : goal.invariant-loop-l
invariant-loop-l v = record {
  sent : (k : ℕ) → on_link k v.outbox.items ≡ on_link k v.fn.outbox.items ++ message_from (slice_get (take v.l v.graph.links) k) v.actor v.tag v.outputs;
  links : v.outbox.links ≡ v.fn.outbox.links;
  spare : v.fn.outbox.spare ≤ v.outbox.spare + v.l;
  len : length v.outbox.items ≤ length v.fn.outbox.items + v.l;
}
