use Rattle.std.proofs.Common.{◌≡◌, ◌++◌, take}
use Rattle.std.specs.List.{flat_map}
use Rattle.pt_semantics.specs.Turn.{Turn}
use Rattle.pt_confluence.proofs.gathering.push_history.Given as goal

abbrev pub invariant-loop-number : goal.invariant-loop-number
invariant-loop-number l = l.tasks.items ≡ l.fn.tasks.items ++ take l.number (flat_map (λ (turn : Turn). turn.claimed) l.history.turns)
