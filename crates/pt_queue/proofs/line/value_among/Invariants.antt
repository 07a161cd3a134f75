use Rattle.std.proofs.Common.{◌≡◌, drop}
use Rattle.pt_queue.specs.Lines.{value_on}
use Rattle.pt_queue.proofs.line.value_among.Given as goal

abbrev pub invariant-loop-place : goal.invariant-loop-place
invariant-loop-place l = value_on (drop l.place l.events.items) l.tag ≡ value_on l.fn.events.items l.tag
