use Rattle.std.proofs.Common.{◌≡◌, map, take}
use Rattle.pt_graph.specs.Graphs.{actor_from}
use Rattle.pt_graph.proofs.convert.actors_of.Given as goal

abbrev pub invariant-loop-actor : goal.invariant-loop-actor
invariant-loop-actor l = l.done.items ≡ map (actor_from l.listed l.platforms) (take l.actor-index l.actors)
