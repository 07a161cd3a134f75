use Rattle.std.proofs.Common.{◌≡◌, None, replicate}
use Rattle.pt_audit.proofs.log.none_taken.Given as goal

abbrev pub invariant-loop : goal.invariant-loop
invariant-loop l = l.last.items ≡ replicate l.counter None
