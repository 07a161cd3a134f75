use Rattle.std.proofs.Common.{◌≡◌, ◌<◌, ℕ, length}
use Rattle.pt_causality.specs.Arcs.{HasLeastDelays, IsSmallRow}
use Rattle.pt_causality.specs.Cells.{delay_row_at}
use Rattle.pt_causality.proofs.table.all_rows.Given as goal

abbrev pub invariant-loop-start : goal.invariant-loop-start
invariant-loop-start l = record {
  len : length l.rows.items ≡ l.start;
  rows : (s : ℕ) → s < l.start → HasLeastDelays l.arcs s (delay_row_at l.rows.items s);
  small : (s : ℕ) → IsSmallRow (delay_row_at l.rows.items s);
}
