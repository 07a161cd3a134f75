use Rattle.std.proofs.Common.{length}
use Rattle.pt_semantics.specs.Closing.{on_link}
use Rattle.pt_visits.proofs.Pushed.{PushesOn}
use Rattle.pt_visits.proofs.pushing.push_from.Given as goal

abbrev pub invariant-loop-message : goal.invariant-loop-message
invariant-loop-message l = PushesOn l.link l.initial.platform l.platform l.initial.pipe l.pipe

abbrev pub decreases-loop-message : goal.decreases-loop-message
decreases-loop-message l = length (on_link l.link l.platform.outbox)
