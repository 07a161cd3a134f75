use Rattle.std.proofs.Common.{◌≡◌, drop}
use Rattle.pt_queue.specs.Scans.{least_from}
use Rattle.pt_queue.proofs.events.least_among.Given as goal

abbrev pub invariant-loop-place : goal.invariant-loop-place
invariant-loop-place l = least_from l.table l.unit l.best (drop l.place l.events.items) ≡ least_from l.table l.unit l.fn.so_far l.fn.events.items
