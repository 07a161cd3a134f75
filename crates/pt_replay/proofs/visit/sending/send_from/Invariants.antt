use Rattle.std.proofs.Common.{◌≡◌, length}
use Rattle.pt_semantics.specs.TrueTime.{put_all}
use Rattle.pt_replay.proofs.visit.sending.send_from.Given as goal

abbrev pub invariant-loop-message : goal.invariant-loop-message
invariant-loop-message l = put_all l.now l.transits l.delay l.initial.pipe l.initial.airway ≡ put_all l.now l.transits l.delay l.pipe l.airway

abbrev pub decreases-loop-message : goal.decreases-loop-message
decreases-loop-message l = length l.pipe
