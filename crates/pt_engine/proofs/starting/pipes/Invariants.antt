use Rattle.std.proofs.Common.{◌≡◌, [], replicate}
use Rattle.pt_engine.proofs.starting.pipes.Given as goal

abbrev pub invariant-loop : goal.invariant-loop
invariant-loop l = l.pipes.items ≡ replicate l.counter []
