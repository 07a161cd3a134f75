use Rattle.std.proofs.Common.{◌≡◌, map, take}
use Rattle.pt_graph.specs.Graphs.{row_from}
use Rattle.pt_graph.proofs.convert.rows_from.Given as goal

abbrev pub invariant-loop-row : goal.invariant-loop-row
invariant-loop-row l = l.done.items ≡ map (row_from l.listed) (take l.row-index l.rows)
