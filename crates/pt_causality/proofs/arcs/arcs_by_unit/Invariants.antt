use Rattle.std.proofs.Common.{◌≡◌, ◌<◌, ℕ, filter, length, map, take}
use Rattle.pt_causality.specs.Arcs.{arcs_from, arc_of, leaves_place}
use Rattle.pt_causality.proofs.arcs.arcs_by_unit.Given as goal

abbrev pub invariant-loop-wire : goal.invariant-loop-wire
invariant-loop-wire l = record {
  len : length l.all.items ≡ l.numbers.count;
  arcs : (j : ℕ) → j < l.numbers.count → arcs_from l.all.items j ≡ map (arc_of l.graph l.numbers.firsts.items) (filter (leaves_place l.graph l.numbers.firsts.items j) (take l.wire-index l.wires));
}
