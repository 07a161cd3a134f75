-- The units of a graph.
use Rattle.std.specs.Prelude.{◌<◌, length}
use Rattle.pt_types.specs.declared.graph.Graph.{Graph}
use Rattle.pt_types.specs.declared.graph.Unit.{Unit}
use Rattle.pt_types.specs.Lookups.{kind_of}
use Rattle.pt_semantics.specs.Units.{groups}

-- u is a unit of the graph
abbrev pub IsUnit : Graph → Unit → Type 0
IsUnit g u = (u.actor < length g.actors) × (u.group < groups (kind_of g u.actor))
