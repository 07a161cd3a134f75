use Rattle.std.proofs.Common.{◌-◌, length, drop}
use Rattle.pt_semantics.specs.Lists.{Each}
use Rattle.pt_queue.specs.declared.waiting.Waiting.{Waiting}
use Rattle.pt_turn.specs.Claims.Fronts.{IsAhead}
use Rattle.pt_turn.proofs.claim.order.place_of.Given as goal

abbrev pub invariant-loop-behind : goal.invariant-loop-behind
invariant-loop-behind l = Each (λ (d : Waiting). IsAhead d l.next → ⊥) (drop (length l.units - l.behind) l.units)
