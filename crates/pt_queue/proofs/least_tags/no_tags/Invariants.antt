use Rattle.std.proofs.Common.{◌≡◌, None, replicate}
use Rattle.pt_queue.proofs.least_tags.no_tags.Given as goal

abbrev pub invariant-loop : goal.invariant-loop
invariant-loop l = l.tags.items ≡ replicate l.counter None
