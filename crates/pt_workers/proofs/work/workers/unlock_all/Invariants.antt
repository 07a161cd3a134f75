use Rattle.std.proofs.Common.{◌≡◌, ◌+◌, vec_len, vec_capacity}
use Rattle.pt_workers.specs.Working.Orders.{numbers, order_weight}
use Rattle.pt_workers.proofs.work.workers.unlock_all.Given as goal

abbrev pub invariant-loop-guarded : goal.invariant-loop-guarded
invariant-loop-guarded g l = record {
  parts : l.all.parts + vec_len l.stations ≡ l.total.parts;
  linked_platforms : vec_len l.linked_platforms + vec_len l.stations ≡ l.total.parts;
  room : vec_capacity l.linked_platforms ≡ l.total.parts;
  weight : order_weight (numbers l.linked_platforms.items) ≡ l.all.amount;
}

abbrev pub decreases-loop-guarded : goal.decreases-loop-guarded
decreases-loop-guarded g l = vec_len l.stations
