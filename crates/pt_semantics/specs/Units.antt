-- Units: the inputs of an actor that react together.
use Rattle.std.specs.Prelude.{◌≡◌, ◌==◌, ◌&&◌, if◌then◌else◌, ◌∷◌, ◌-◌, [], ℕ, ℤ, Bool, List, None, Option, Some, length, suc, true}
use Rattle.pt_tags.specs.declared.tag.Tag.{Tag}
use Rattle.pt_types.specs.declared.graph.Graph.{Graph}
use Rattle.pt_types.specs.declared.kind.Kind.{Kind}
use Rattle.pt_types.specs.declared.kind.Kind.TheVariants.{Lanes}
use Rattle.pt_types.specs.declared.graph.Unit.{Unit}
use Rattle.pt_types.specs.declared.firing.Task.{Task}
use Rattle.pt_types.specs.Ports.{eight, when}
use Rattle.pt_types.specs.Groups.{input_group, output_group}
use Rattle.pt_types.specs.Lookups.{kind_of}
use Rattle.pt_semantics.specs.Edges.{Edge}
use Rattle.pt_semantics.specs.Meaning.{Values}
use Rattle.pt_semantics.specs.Firing.{any_present}

-- the number of units of an actor: one for each cell of lanes, 1 for other kinds
abbrev pub groups : Kind → ℕ
groups (Lanes cells) = length cells
groups _ = 1

-- the unit of an actor's input
abbrev pub at_input : Graph → ℕ → ℕ → Unit
at_input g a input = record { actor = a; group = input_group (kind_of g a) input }

-- the unit of an actor's output
abbrev pub at_output : Graph → ℕ → ℕ → Unit
at_output g a output = record { actor = a; group = output_group (kind_of g a) output }

-- the unit that an edge leaves, and the unit that it enters
abbrev pub source : Graph → Edge → Unit
source g e = at_output g e.from e.output

abbrev pub target : Graph → Edge → Unit
target g e = at_input g e.to e.input

-- the two units are the same
abbrev pub same_part : Unit → Unit → Bool
same_part u v = u.actor == v.actor && u.group == v.group

-- the edge leaves this unit
abbrev pub leaves_unit : Graph → Unit → Edge → Bool
leaves_unit g u e = same_part u (source g e)

-- the first input with a value, or the number of inputs if there is none
abbrev pub first_port : List (Option ℤ) → ℕ
first_port [] = 0
first_port (Some x ∷ xs) = 0
first_port (None ∷ xs) = suc (first_port xs)

-- the unit of a task: that of its first input with a value
abbrev pub unit_of : Graph → Task → Unit
unit_of g task = at_input g task.actor (first_port task.inputs)

-- the values at a unit's inputs at a tag
abbrev pub unit_inputs : Graph → Values → Unit → Tag → List (Option ℤ)
unit_inputs g values u t = eight (λ p. when (input_group (kind_of g u.actor) p == u.group) (values u.actor p t))

-- a unit has a pending event at a tag
abbrev pub HasEvent : Graph → Values → Unit → Tag → Type 0
HasEvent g waits u t = any_present (unit_inputs g waits u t) ≡ true
