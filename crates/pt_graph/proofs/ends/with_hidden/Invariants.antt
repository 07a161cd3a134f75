use Rattle.std.proofs.Common.{◌≡◌, ◌++◌, drop}
use Rattle.pt_types.specs.Ends.{hidden_wires}
use Rattle.pt_graph.proofs.ends.with_hidden.Given as goal

abbrev pub invariant-loop-i : goal.invariant-loop-i
invariant-loop-i l = l.all.items ++ hidden_wires l.i (drop l.i l.actors) ≡ l.fn.wires.items ++ hidden_wires 0 l.actors
