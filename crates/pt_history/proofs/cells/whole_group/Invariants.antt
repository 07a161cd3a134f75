use Rattle.std.proofs.Common.{◌≡◌, ◌+◌, ◌-◌, ◌≤◌, ◌++◌, count_ones, drop, length, take}
use Rattle.pt_history.specs.Cells.{cells_from, group_of}
use Rattle.pt_history.proofs.cells.whole_group.Given as goal

abbrev pub invariant-loop-number : goal.invariant-loop-number
invariant-loop-number l = record {
  cells : take l.number l.cells ++ cells_from (9 - l.number) l.rest (drop l.at l.values) ≡ group_of l.mask (drop l.start l.values);
  fits : l.at + count_ones l.rest ≤ length l.values;
  nine : length l.cells ≡ 9;
}
