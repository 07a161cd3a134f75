use Rattle.std.proofs.Common.{◌≡◌, ◌++◌, List, map, take}
use Rattle.std.specs.List.{flat_map}
use Rattle.pt_types.specs.declared.firing.ActorFiring.{ActorFiring}
use Rattle.pt_semantics.specs.Turn.{Turn}
use Rattle.pt_tables.specs.Gathered.{texts_from}
use Rattle.pt_confluence.specs.Gathered.{by_task}
use Rattle.pt_confluence.proofs.actuators.push_history.Given as goal

abbrev pub invariant-loop-number : goal.invariant-loop-number
invariant-loop-number l = (xs : List ActorFiring) → l.fn.tables ≡ texts_from 0 l.actors xs → l.tables ≡ texts_from 0 l.actors (xs ++ map by_task (take l.number (flat_map (λ (turn : Turn). turn.claimed) l.history.turns)))
