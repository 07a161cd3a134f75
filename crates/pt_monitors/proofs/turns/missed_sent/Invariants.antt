use Rattle.std.proofs.Common.{◌≡◌, ◌++◌, ◌-◌, ◌≤◌, length, take}
use Rattle.std.specs.List.{flat_map}
use Rattle.pt_monitors.specs.Misses.{missed_at}
use Rattle.pt_monitors.proofs.turns.missed_sent.Given as goal

abbrev pub invariant-loop-start : goal.invariant-loop-start
invariant-loop-start l = (l.misses.items ≡ l.fn.misses.items ++ flat_map (missed_at l.graph) (take l.start l.history.turns)) × (l.start ≤ length l.history.turns)

abbrev pub decreases-loop-start : goal.decreases-loop-start
decreases-loop-start l = l.turns - l.start
