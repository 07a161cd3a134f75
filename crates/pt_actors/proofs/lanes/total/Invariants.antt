use Rattle.std.proofs.Common.{◌≡◌, ◌*◌, ◌^◌, drop, pos, ◌+ℤ◌, neg_ℤ, ◌≤ℤ◌}
use Rattle.pt_semantics.specs.Firing.{present_sum}
use Rattle.pt_actors.proofs.lanes.total.Given as goal

abbrev pub invariant-loop-value : goal.invariant-loop-value
invariant-loop-value l =
    (l.total +ℤ present_sum (drop l.value-index l.values) ≡ present_sum l.values) × (neg_ℤ (pos (2 ^ 63 * l.value-index)) ≤ℤ l.total) × (l.total ≤ℤ pos (2 ^ 63 * l.value-index))
