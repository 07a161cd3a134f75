-- The parts: the firings of units within the firings of actors.
use Rattle.std.specs.Prelude.{◌≡◌, ◌<◌, ◌==◌, ℕ, ℤ, List, Option, Some, filter_map}
use Rattle.pt_types.specs.declared.graph.Graph.{Graph}
use Rattle.pt_types.specs.declared.kind.Kind.{Kind}
use Rattle.pt_types.specs.declared.graph.Unit.{Unit}
use Rattle.pt_types.specs.Ports.{at_port, eight, when}
use Rattle.pt_semantics.specs.Meaning.{ActorFiring}
use Rattle.pt_semantics.specs.Behaviours.{Firing, Firings}
use Rattle.pt_semantics.specs.Lists.{IsIn}
use Rattle.pt_semantics.specs.Firing.{any_present, fired}
use Rattle.pt_semantics.specs.Units.{at_input}
use Rattle.pt_types.specs.Groups.{input_group, output_group}
use Rattle.pt_types.specs.Lookups.{kind_of}

-- the inputs of one group, of all inputs of an actor's firing
abbrev pub narrowed : Kind → ℕ → List (Option ℤ) → List (Option ℤ)
narrowed kind group inputs = eight (λ p. when (input_group kind p == group) (at_port inputs p))

-- the part with these inputs, if one of them is present
abbrev pub part_by : Kind → ActorFiring → List (Option ℤ) → Option Firing
part_by kind x inputs = when (any_present inputs) (Some (record { tag = x.tag; inputs = inputs; before = x.before; after = (fired kind x.before inputs).state; outputs = (fired kind x.before inputs).outputs }))

-- the part of unit u in a firing of its actor, if it has one
abbrev pub part_of : Graph → Unit → ActorFiring → Option Firing
part_of g u x = when (x.actor == u.actor) (part_by (kind_of g u.actor) x (narrowed (kind_of g u.actor) u.group x.inputs))

-- the parts of each unit in a list of firings
abbrev pub parts : Graph → List ActorFiring → Firings
parts g xs u = filter_map (part_of g u) xs

-- a claim x of unit u is a part of a firing z of its actor
pub record IsPartOf (g : Graph) (u : Unit) (x : Firing) (z : ActorFiring) : Type 0 where
  pub actor : z.actor ≡ u.actor
  pub tag : z.tag ≡ x.tag
  pub inputs : x.inputs ≡ narrowed (kind_of g u.actor) u.group z.inputs
  pub before : x.before ≡ z.before
  pub after : x.after ≡ z.after
  pub outputs : (o : ℕ) → output_group (kind_of g u.actor) o ≡ u.group → at_port x.outputs o ≡ at_port z.outputs o

-- each claim is a part of a firing, and each input of a firing is claimed by its unit at that tag
pub record AreTheFirings (g : Graph) (claimed : Firings) (xs : List ActorFiring) : Type 0 where
  pub claims : (u : Unit) (x : Firing) → IsIn x (claimed u) → (z : ActorFiring) × IsIn z xs × IsPartOf g u x z
  pub firings : (z : ActorFiring) (p : ℕ) (v : ℤ) → IsIn z xs → p < 8 → at_port z.inputs p ≡ Some v → (x : Firing) × IsIn x (claimed (at_input g z.actor p)) × IsPartOf g (at_input g z.actor p) x z
