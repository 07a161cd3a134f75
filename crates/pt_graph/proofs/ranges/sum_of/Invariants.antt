use Rattle.std.proofs.Common.{◌≡◌, ◌-◌, ◌^◌, min, map, sum, take}
use Rattle.std.specs.Prelude.{unsigned_abs}
use Rattle.pt_graph.proofs.ranges.sum_of.Given as goal

abbrev pub invariant-loop-c : goal.invariant-loop-c
invariant-loop-c l = l.total ≡ min (sum (map unsigned_abs (take l.c-index l.cells))) (2 ^ 64 - 1)
