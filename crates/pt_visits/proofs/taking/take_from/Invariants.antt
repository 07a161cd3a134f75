use Rattle.std.proofs.Common.{◌≡◌, ◌++◌, length, map}
use Rattle.pt_visits.specs.Pipes.{put_on}
use Rattle.pt_visits.proofs.taking.take_from.Given as goal

abbrev pub invariant-loop-message : goal.invariant-loop-message
invariant-loop-message l = l.initial.taken.items ++ map (put_on l.link) l.initial.pipe ≡ l.taken.items ++ map (put_on l.link) l.pipe

abbrev pub decreases-loop-message : goal.decreases-loop-message
decreases-loop-message l = length l.pipe
