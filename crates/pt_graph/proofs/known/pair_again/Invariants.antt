use Rattle.std.proofs.Common.{◌≡◌, [], take, drop}
use Rattle.pt_graph.specs.Known.{pair_again_from}
use Rattle.pt_graph.proofs.known.pair_again.Given as goal

abbrev pub invariant-loop-i : goal.invariant-loop-i
invariant-loop-i l = pair_again_from (take l.i l.pairs) l.i (drop l.i l.pairs) ≡ pair_again_from [] 0 l.pairs
