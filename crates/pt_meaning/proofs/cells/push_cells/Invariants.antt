use Rattle.std.proofs.Common.{◌≡◌, ◌+◌, ◌++◌, drop}
use Rattle.pt_meaning.specs.Flat.{cell_numbers_from, cell_values}
use Rattle.pt_meaning.proofs.cells.push_cells.Given as goal

abbrev pub invariant-loop-number : goal.invariant-loop-number
invariant-loop-number l = record {
  places : l.places.items ++ cell_numbers_from (l.from + l.number) (drop l.number l.cells) ≡ l.fn.places.items ++ cell_numbers_from l.from l.cells;
  values : l.values.items ++ cell_values (drop l.number l.cells) ≡ l.fn.values.items ++ cell_values l.cells;
}
