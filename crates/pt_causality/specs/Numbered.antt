-- Numbers for the units of a graph.
use Rattle.std.specs.Prelude.{◌≡◌, ◌<◌, ◌≤◌}
use Rattle.pt_types.specs.declared.graph.Graph.{Graph}
use Rattle.pt_types.specs.declared.graph.Unit.{Unit}
use Rattle.pt_causality.specs.declared.units.Numbers.{Numbers}
use Rattle.pt_causality.specs.Cells.{number_in}
use Rattle.pt_causality.specs.Units.{IsUnit}

-- no two units of the graph have the same number, and all numbers are below the count, which is at most 2048
pub record AreNumbered (g : Graph) (n : Numbers) : Type 0 where
  pub apart : (u v : Unit) → IsUnit g u → IsUnit g v → number_in n.firsts.items u ≡ number_in n.firsts.items v → u ≡ v
  pub below : (u : Unit) → IsUnit g u → number_in n.firsts.items u < n.count
  pub few : n.count ≤ 2048
