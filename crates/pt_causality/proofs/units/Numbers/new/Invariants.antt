use Rattle.std.proofs.Common.{◌≡◌, ◌<◌, ◌≤◌, ◌+◌, ℕ, length}
use Rattle.pt_types.specs.Lookups.{kind_of}
use Rattle.pt_semantics.specs.Units.{groups}
use Rattle.pt_causality.specs.Cells.{first_in}
use Rattle.pt_causality.proofs.Numbering.{cells_until}
use Rattle.pt_causality.proofs.units.Numbers.new.Given as goal

abbrev pub invariant-loop-actor : goal.invariant-loop-actor
invariant-loop-actor l = record {
  len : length l.firsts.items ≡ l.actor;
  spaced : (i j : ℕ) → i < j → j < l.actor → first_in l.firsts.items i + groups (kind_of l.graph i) ≤ first_in l.firsts.items j;
  ends : (i : ℕ) → i < l.actor → first_in l.firsts.items i + groups (kind_of l.graph i) ≤ l.count;
  few : l.count ≤ l.actor + cells_until l.graph l.actor;
}
