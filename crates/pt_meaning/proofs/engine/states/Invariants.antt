use Rattle.std.proofs.Common.{◌≡◌, ◌++◌, map, drop}
use Rattle.pt_meaning.specs.Running.{state_at_start}
use Rattle.pt_meaning.proofs.engine.states.Given as goal

abbrev pub invariant-loop-actor : goal.invariant-loop-actor
invariant-loop-actor l = l.states.items ++ map state_at_start (drop l.actor-index l.graph.actors) ≡ map state_at_start l.graph.actors
