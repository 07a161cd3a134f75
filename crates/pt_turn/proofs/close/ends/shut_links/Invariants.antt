use Rattle.std.proofs.Common.{◌≡◌, ◌≤◌, ◌+◌, ◌++◌, ℕ, take, length, slice_get}
use Rattle.pt_semantics.specs.Closing.{on_link, end_for}
use Rattle.pt_turn.proofs.close.ends.shut_links.Given as goal

abbrev pub invariant-loop-l : goal.invariant-loop-l
invariant-loop-l v = record {
  ends : (k : ℕ) → on_link k v.outbox.items ≡ on_link k v.fn.outbox.items ++ end_for v.graph v.number (slice_get (take v.l v.graph.links) k);
  links : v.outbox.links ≡ v.fn.outbox.links;
  spare : v.fn.outbox.spare ≤ v.outbox.spare + v.l;
  len : length v.outbox.items ≤ length v.fn.outbox.items + v.l;
}
