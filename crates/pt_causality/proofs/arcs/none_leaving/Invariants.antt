use Rattle.std.proofs.Common.{◌≡◌, ℕ, [], length}
use Rattle.pt_causality.specs.Arcs.{arcs_from}
use Rattle.pt_causality.proofs.arcs.none_leaving.Given as goal

abbrev pub invariant-loop : goal.invariant-loop
invariant-loop l = record {
  len : length l.all.items ≡ l.counter;
  none : (j : ℕ) → arcs_from l.all.items j ≡ [];
}
