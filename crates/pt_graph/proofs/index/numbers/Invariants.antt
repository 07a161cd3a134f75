use Rattle.std.proofs.Common.{◌≡◌, ℕ, List, take}
use Rattle.pt_graph.specs.Known.{first_named}
use Rattle.pt_graph.specs.Index.{at_name}
use Rattle.pt_graph.proofs.index.numbers.Given as goal

abbrev pub invariant-loop-i : goal.invariant-loop-i
invariant-loop-i g l = (n : List ℕ) → at_name l.numbers n ≡ first_named g.T.HasName.name_of (take l.i l.items) n
