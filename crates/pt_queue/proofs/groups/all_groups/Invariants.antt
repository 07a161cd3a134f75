use Rattle.std.proofs.Common.{◌≡◌, ◌++◌, map, drop}
use Rattle.pt_types.specs.declared.graph.Actor.{Actor}
use Rattle.pt_queue.specs.Groups.{kind_groups}
use Rattle.pt_queue.proofs.groups.all_groups.Given as goal

abbrev pub invariant-loop-actor : goal.invariant-loop-actor
invariant-loop-actor l = l.groups.items ++ map (λ (a : Actor). kind_groups a.kind) (drop l.actor-index l.graph.actors) ≡ map (λ (a : Actor). kind_groups a.kind) l.graph.actors
