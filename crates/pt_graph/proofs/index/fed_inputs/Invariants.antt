use Rattle.std.proofs.Common.{◌≡◌, ℕ, [], take, drop}
use Rattle.pt_types.specs.Ends.{is_fed, fed_twice_from}
use Rattle.pt_graph.specs.Index.{has_input}
use Rattle.pt_graph.proofs.index.fed_inputs.Given as goal

abbrev pub invariant-loop-i : goal.invariant-loop-i
invariant-loop-i l = record {
  left : fed_twice_from (take l.i l.wires) l.i (drop l.i l.wires) ≡ fed_twice_from [] 0 l.wires;
  fed : (actor input : ℕ) → has_input l.fed actor input ≡ is_fed (take l.i l.wires) actor input;
}
