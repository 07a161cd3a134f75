use Rattle.std.proofs.Common.{◌≡◌, map, take}
use Rattle.pt_graph.specs.Graphs.{wire_from}
use Rattle.pt_graph.specs.Index.{at_name}
use Rattle.pt_graph.proofs.convert.wires_of.Given as goal

abbrev pub invariant-loop-wire : goal.invariant-loop-wire
invariant-loop-wire l = l.done.items ≡ map (wire_from (at_name l.numbers)) (take l.wire-index l.wires)
