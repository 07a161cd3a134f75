use Rattle.std.proofs.Common.{◌≡◌, drop}
use Rattle.pt_queue.specs.Events.{waiting_in}
use Rattle.pt_queue.proofs.events.value_at.Given as goal

abbrev pub invariant-loop-place : goal.invariant-loop-place
invariant-loop-place l = waiting_in (drop l.place l.events.items) l.actor l.port l.tag ≡ waiting_in l.fn.events.items l.actor l.port l.tag
