use Rattle.std.proofs.Common.{slice_get, take}
use Rattle.pt_history.specs.Turns.{posted_in}
use Rattle.pt_monitors.specs.Misses.{AppendsMisses}
use Rattle.pt_monitors.proofs.turns.missed_results.Given as goal

abbrev pub invariant-loop-number : goal.invariant-loop-number
invariant-loop-number l = AppendsMisses l.graph (slice_get l.history.turns l.turn) (take l.number (posted_in l.history.turns l.turn)) l.fn.misses.items l.misses.items
