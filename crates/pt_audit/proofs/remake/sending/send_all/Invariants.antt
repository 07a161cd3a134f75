use Rattle.std.proofs.Common.{take}
use Rattle.pt_audit.proofs.Remaking.Sends.{SendsOn}
use Rattle.pt_audit.proofs.remake.sending.send_all.Given as goal

abbrev pub invariant-loop-message : goal.invariant-loop-message
invariant-loop-message l = SendsOn l.initial.platform l.platform (take l.message-index l.messages) l.counts
