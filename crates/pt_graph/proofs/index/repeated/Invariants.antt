use Rattle.std.proofs.Common.{◌≡◌, ℕ, List, [], take, drop}
use Rattle.pt_types.specs.Lawful.{repeated_from}
use Rattle.pt_graph.specs.Known.{first_named}
use Rattle.pt_graph.specs.Index.{at_name}
use Rattle.pt_graph.proofs.index.repeated.Given as goal

abbrev pub invariant-loop-i : goal.invariant-loop-i
invariant-loop-i g l = record {
  seen : (n : List ℕ) → at_name l.numbers n ≡ first_named g.T.HasName.name_of (take l.i l.items) n;
  left : repeated_from g.T.HasName.name_of (take l.i l.items) l.i (drop l.i l.items) ≡ repeated_from g.T.HasName.name_of [] 0 l.items;
}
