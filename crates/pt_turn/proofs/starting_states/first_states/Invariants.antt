use Rattle.std.proofs.Common.{◌≡◌, ◌++◌, map, drop}
use Rattle.pt_turn.specs.Starting.{first_of_actor}
use Rattle.pt_turn.proofs.starting_states.first_states.Given as goal

abbrev pub invariant-loop-actor : goal.invariant-loop-actor
invariant-loop-actor l = l.states.items ++ map first_of_actor (drop l.actor-index l.graph.actors) ≡ map first_of_actor l.graph.actors
