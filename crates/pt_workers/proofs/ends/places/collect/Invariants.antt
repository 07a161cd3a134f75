use Rattle.std.proofs.Common.{◌≡◌, ◌≤◌, length, vec_len, vec_capacity}
use Rattle.pt_workers.proofs.LinkEnds.Laying.{Collecting}
use Rattle.pt_workers.proofs.ends.places.collect.Given as goal

abbrev pub invariant-loop-l : goal.invariant-loop-l
invariant-loop-l g l = record {
  count : vec_len l.places ≡ vec_len l.initial.places;
  room : (vec_len l.things ≤ l.l) × (vec_capacity l.things ≡ length l.owners);
  so_far : Collecting l.owners l.owner l.l l.initial.places.items l.places.items l.things.items;
}
