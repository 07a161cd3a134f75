use Rattle.std.proofs.Common.{take}
use Rattle.pt_semantics.specs.Lists.{Each}
use Rattle.pt_history.specs.Turns.{all_dated}
use Rattle.pt_monitors.specs.InTime.{IsInTime}
use Rattle.pt_monitors.proofs.turns.are_in_time.Given as goal

abbrev pub invariant-loop-number : goal.invariant-loop-number
invariant-loop-number l = Each (IsInTime l.graph) (take l.number (all_dated l.history.turns))
