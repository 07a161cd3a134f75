use Rattle.std.proofs.Common.{◌≡◌, ◌≤◌, ◌*◌, vec_len, vec_capacity}
use Rattle.pt_pool.specs.Ends.{end_in}
use Rattle.pt_pool.specs.Lanes.{EndByEnd, Took}
use Rattle.pt_pool.proofs.taking.take_all.Given as goal

abbrev pub invariant-loop-k : goal.invariant-loop-k
invariant-loop-k g l = record {
  room : (vec_len l.given ≤ 64 * l.k) × (vec_capacity l.given ≡ vec_capacity l.initial.given);
  lanes : EndByEnd Took end_in l.k l.initial.inlets l.inlets l.given.items;
}
