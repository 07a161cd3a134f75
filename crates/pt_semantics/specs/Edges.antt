-- The edges of a graph, wires and links, and the delay that each adds to a tag.
pub use Rattle.pt_types.specs.declared.graph.Edge.{Edge}
use Rattle.std.specs.Prelude.{ℕ, ◌==◌, if◌then◌else◌, List, [], ◌++◌, map, pos, ℤ}
use Rattle.pt_tags.specs.declared.tag.Delay.{Delay}
use Rattle.pt_tags.specs.Tags.{zero_delay}
use Rattle.pt_types.specs.declared.graph.Graph.{Graph}
use Rattle.pt_types.specs.declared.graph.Wire.{Wire}
use Rattle.pt_types.specs.declared.graph.Link.{Link}
use Rattle.pt_types.specs.declared.kind.Kind.{Kind}
use Rattle.pt_types.specs.Lookups.{kind_of}
use Rattle.pt_types.specs.declared.kind.Kind.TheVariants.{Every, Machine}

-- an output of a `delay` adds its time, or one step if the time is 0; the hidden output of an `every` adds its period;
-- every other output adds nothing
abbrev pub weight : Kind → ℕ → Delay
weight (Kind.Delay d) output = if d == 0 then record { time = 0; step = 1 } else record { time = d; step = 0 }
weight (Every start period) output = if output == 1 then record { time = period; step = 0 } else zero_delay
weight _ output = zero_delay

abbrev pub of_wire : Graph → Wire → Edge
of_wire g w = record { from = w.from; output = w.output; to = w.to; input = w.input; weight = weight (kind_of g w.from) w.output }

-- a link leads from output 0 of its sender to input 0 of its receiver, and adds no delay
abbrev pub of_link : Link → Edge
of_link l = record { from = l.from; output = 0; to = l.to; input = 0; weight = zero_delay }

abbrev pub wires : Graph → List Edge
wires g = map (of_wire g) g.wires

abbrev pub links : Graph → List Edge
links g = map of_link g.links

-- all edges: the wires with the hidden ones, then the links
abbrev pub edges : Graph → List Edge
edges g = wires g ++ links g

-- an actor's state at the start: as a machine states it, 0 for other kinds
abbrev pub first_state : Kind → ℤ
first_state (Machine start outputs rows) = start
first_state _ = pos 0
