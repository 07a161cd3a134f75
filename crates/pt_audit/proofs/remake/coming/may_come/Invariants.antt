use Rattle.std.proofs.Common.{take}
use Rattle.pt_turn.specs.Platforms.{level_at, state_at}
use Rattle.pt_audit.proofs.Remaking.Came.{ComesOn}
use Rattle.pt_audit.proofs.remake.coming.may_come.Given as goal

abbrev pub invariant-loop-message : goal.invariant-loop-message
invariant-loop-message l = ComesOn l.platform.plan.graph (level_at l.platform) l.platform.number (state_at l.platform) (take l.message-index l.messages) l.initial.last l.last
