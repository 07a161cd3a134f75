-- How many events the results to come may send.
use Rattle.std.specs.Prelude.{ℕ, List, Option, is_some}
use Rattle.std.specs.List.{count_by}
use Rattle.pt_types.specs.declared.graph.Graph.{Graph}
use Rattle.pt_types.specs.declared.graph.Unit.{Unit}
use Rattle.pt_types.specs.declared.graph.Wire.{Wire}
use Rattle.pt_types.specs.declared.firing.Task.{Task}
use Rattle.pt_semantics.specs.Edges.{of_wire}
use Rattle.pt_semantics.specs.Units.{leaves_unit, source}

-- the number of these wires that leave a unit
abbrev pub leaving : Graph → Unit → List Wire → ℕ
leaving g u ws = count_by (λ (w : Wire). leaves_unit g u (of_wire g w)) ws

-- the number of these wires that leave a unit with an open claim: each can still send one event
abbrev pub leaving_open : Graph → (Unit → Option Task) → List Wire → ℕ
leaving_open g busy ws = count_by (λ (w : Wire). is_some (busy (source g (of_wire g w)))) ws
