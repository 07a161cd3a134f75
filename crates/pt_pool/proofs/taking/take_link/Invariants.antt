use Rattle.std.proofs.Common.{◌≡◌, ◌≤◌, ◌+◌, vec_len, vec_capacity}
use Rattle.pt_pool.proofs.Takes.{TakesOn}
use Rattle.pt_pool.proofs.taking.take_link.Given as goal

abbrev pub invariant-loop-k : goal.invariant-loop-k
invariant-loop-k g l = record {
  room : (vec_len l.given ≤ vec_len l.initial.given + l._k) × (vec_capacity l.given ≡ vec_capacity l.initial.given);
  takes : TakesOn l.link l._k l.initial.inlet l.inlet l.initial.given.items l.given.items;
}
