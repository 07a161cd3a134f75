use Rattle.std.proofs.Common.{◌++◌, filter, map, take}
use Rattle.std.specs.List.Sorted.{IsPermutation}
use Rattle.pt_causality.specs.Waits.{is_open, reached}
use Rattle.pt_causality.proofs.shortest.reach.Given as goal

abbrev pub invariant-loop-arc : goal.invariant-loop-arc
invariant-loop-arc l = IsPermutation (map (reached l.at) (filter (is_open l.row) (take l.arc-index l.arcs)) ++ l.initial.frontier) l.frontier
