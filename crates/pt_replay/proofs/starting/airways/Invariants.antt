use Rattle.std.proofs.Common.{◌≡◌, replicate}
use Rattle.pt_semantics.specs.Arrivals.{empty_airway}
use Rattle.pt_replay.proofs.starting.airways.Given as goal

abbrev pub invariant-loop : goal.invariant-loop
invariant-loop l = l.airways.items ≡ replicate l.counter empty_airway
