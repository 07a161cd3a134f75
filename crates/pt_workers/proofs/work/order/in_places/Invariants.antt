use Rattle.std.proofs.Common.{◌≡◌, ℕ, ◌<◌, ◌⊎◌, vec_len}
use Rattle.pt_workers.specs.Working.Orders.{numbers, Among, HasAt}
use Rattle.pt_workers.proofs.work.order.in_places.Given as goal

abbrev pub invariant-loop-linked : goal.invariant-loop-linked
invariant-loop-linked g l = record {
  places : vec_len l.places ≡ vec_len l.fn.linked_platforms;
  each : (w : ℕ) → w < vec_len l.fn.linked_platforms → HasAt l.places.items w ⊎ Among w (numbers l.linked_platforms.items);
}

abbrev pub decreases-loop-linked : goal.decreases-loop-linked
decreases-loop-linked g l = vec_len l.linked_platforms
