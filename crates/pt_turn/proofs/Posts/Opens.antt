-- An open claim that was found is of an actor of the graph.
use Rattle.std.proofs.Common.{◌<◌, List, Some, length, ap, subst, ◌∙◌}
use Rattle.pt_types.specs.declared.graph.Graph.{Graph}
use Rattle.pt_types.specs.declared.graph.Unit.{Unit}
use Rattle.pt_types.specs.declared.firing.Task.{Task}
use Rattle.pt_semantics.specs.Lists.{Each}
use Rattle.pt_semantics.specs.Units.{unit_of}
use Rattle.pt_semantics.proofs.Lookups.{Each-in}
use Rattle.pt_turn.specs.declared.state.fields.OpenClaim.{OpenClaim}
use Rattle.pt_turn.specs.Fields.State.{IsOpen, IsFound}

pub found_actor : (g : Graph) (opens : List OpenClaim) (task : Task) (u : Unit) → Each (IsOpen g opens) opens → IsFound opens task (Some u) → task.actor < length g.actors
found_actor g opens task u h f =
    let was : IsOpen g opens f.0 = Each-in (IsOpen g opens) opens h f.0 f.1 in
    subst (λ (v : Unit). v.actor < length g.actors) (was.unit ∙ ap (unit_of g) f.3) was.is_unit.0
