use Rattle.std.proofs.Common.{◌≡◌, vec_len}
use Rattle.pt_workers.specs.Working.Orders.{numbers}
use Rattle.pt_workers.proofs.work.ended.visit_each.Given as goal

abbrev pub invariant-loop-k : goal.invariant-loop-k
invariant-loop-k g l = (numbers l.linked_platforms.items ≡ numbers l.initial.linked_platforms.items) × (vec_len l.linked_platforms ≡ vec_len l.initial.linked_platforms)
