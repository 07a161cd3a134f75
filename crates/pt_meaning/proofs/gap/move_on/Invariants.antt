use Rattle.std.proofs.Common.{◌≡◌, ◌++◌}
use Rattle.pt_meaning.proofs.gap.move_on.Given as goal

abbrev pub invariant-loop : goal.invariant-loop
invariant-loop l = record { same : l.before.items ++ l.after.items ≡ l.fn.before.items ++ l.fn.after.items }
