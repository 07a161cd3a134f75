use Rattle.std.proofs.Common.{◌≡◌, ◌+◌, ◌*◌, ◌≤◌, length, take, vec_len, vec_capacity}
use Rattle.pt_turn.specs.Fields.State.{IsSound, busy_in}
use Rattle.pt_turn.specs.Posts.Room.{leaving_open}
use Rattle.pt_turn.specs.Posts.Posted.{ArePlaces, Posted, picked}
use Rattle.pt_turn.proofs.post.results.posts.Given as goal

abbrev pub invariant-loop-place : goal.invariant-loop-place
invariant-loop-place l = record {
  sound : IsSound l.graph l.fields;
  so_far : Posted l.graph l.fn.fields l.fields (take l.place l.dones) (picked l.dones l.fn.kept.items) (picked l.dones l.kept.items);
  places : ArePlaces l.dones l.fn.kept.items → ArePlaces l.dones l.kept.items;
  kept : vec_len l.kept ≤ vec_len l.fn.kept + l.place;
  kept_room : vec_capacity l.fn.kept ≤ vec_capacity l.kept;
  events : l.fn.fields.queue.spare + leaving_open l.graph (busy_in l.fields.open_claims.items) l.graph.wires ≤ l.fields.queue.spare + leaving_open l.graph (busy_in l.fn.fields.open_claims.items) l.graph.wires;
  messages : length l.fields.outbox.items ≤ length l.fn.fields.outbox.items + l.place * length l.graph.links;
  messages_room : l.fn.fields.outbox.spare ≤ l.fields.outbox.spare + l.place * length l.graph.links;
  open_claims : l.fields.open_claims.spare ≡ l.fn.fields.open_claims.spare;
  frame : (l.fields.sensors ≡ l.fn.fields.sensors) × (l.fields.reading ≡ l.fn.fields.reading) × (l.fields.closed ≡ l.fn.fields.closed) × (l.fields.claims ≡ l.fn.fields.claims);
  groups : l.fields.queue.groups ≡ l.fn.fields.queue.groups;
}
