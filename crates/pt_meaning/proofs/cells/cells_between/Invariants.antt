use Rattle.std.proofs.Common.{◌≡◌, ◌-◌, take, drop}
use Rattle.pt_meaning.specs.Flat.{with_cells, empty_cells}
use Rattle.pt_meaning.proofs.cells.cells_between.Given as goal

abbrev pub invariant-loop-number : goal.invariant-loop-number
invariant-loop-number l =
    with_cells l.cells (take (l.end - l.number) (drop l.number l.places)) (take (l.end - l.number) (drop l.number l.values))
    ≡ with_cells empty_cells (take (l.end - l.start) (drop l.start l.places)) (take (l.end - l.start) (drop l.start l.values))
