use Rattle.std.proofs.Common.{◌≡◌, drop}
use Rattle.pt_types.specs.Ends.{first_unfed}
use Rattle.pt_graph.specs.Index.{has_input}
use Rattle.pt_graph.proofs.ends.unfed.Given as goal

abbrev pub invariant-loop-i : goal.invariant-loop-i
invariant-loop-i l = first_unfed (has_input l.fed) l.i (drop l.i l.actors) ≡ first_unfed (has_input l.fed) 0 l.actors
