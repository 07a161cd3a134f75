use Rattle.std.proofs.Common.{◌≡◌, length, vec_len, vec_capacity}
use Rattle.pt_workers.specs.Opened.{AreOpenEnds}
use Rattle.pt_workers.proofs.opening.open_links.Given as goal

abbrev pub invariant-loop-l : goal.invariant-loop-l
invariant-loop-l l = record {
  count : (vec_len l.outlets ≡ l.l) × (vec_len l.inlets ≡ l.l);
  room : (vec_capacity l.outlets ≡ length l.links) × (vec_capacity l.inlets ≡ length l.links);
  opened : AreOpenEnds l.plan l.l l.outlets.items l.inlets.items;
}
