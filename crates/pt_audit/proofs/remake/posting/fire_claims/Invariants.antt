use Rattle.std.proofs.Common.{take, flat_map}
use Rattle.pt_semantics.specs.Turn.{Turn}
use Rattle.pt_audit.proofs.Remaking.Fires.{FiresOn}
use Rattle.pt_audit.proofs.remake.posting.fire_claims.Given as goal

abbrev pub invariant-loop-number : goal.invariant-loop-number
invariant-loop-number g l = FiresOn l.platform.plan.graph (flat_map (λ (turn : Turn). turn.claimed) l.platform.turns) (take l.number-index l.numbers) l.dones.items
