use Rattle.std.proofs.Common.{◌≡◌, length, vec_len, vec_capacity}
use Rattle.pt_pool.specs.Ends.{leaves, receiving_platform}
use Rattle.pt_workers.specs.Opened.{AreOwners}
use Rattle.pt_workers.proofs.opening.owners_of.Given as goal

abbrev pub invariant-loop-l : goal.invariant-loop-l
invariant-loop-l l = record {
  count : (vec_len l.senders ≡ l.l) × (vec_len l.receivers ≡ l.l);
  room : (vec_capacity l.senders ≡ length l.links) × (vec_capacity l.receivers ≡ length l.links);
  from : AreOwners l.graph leaves l.l l.senders.items;
  to : AreOwners l.graph receiving_platform l.l l.receivers.items;
}
