use Rattle.std.proofs.Common.{◌≡◌, ℕ, ◌<◌, ◌≤◌, vec_len, vec_capacity}
use Rattle.pt_workers.specs.Working.Orders.{numbers, count_up, HasAt}
use Rattle.pt_workers.proofs.work.order.in_order.Given as goal

abbrev pub invariant-loop-k : goal.invariant-loop-k
invariant-loop-k g l = record {
  places : vec_len l.places ≡ l.count;
  each : (w : ℕ) → l.k ≤ w → w < l.count → HasAt l.places.items w;
  order : numbers l.ordered.items ≡ count_up l.k;
  len : vec_len l.ordered ≡ l.k;
  room : vec_capacity l.ordered ≡ l.count;
}
