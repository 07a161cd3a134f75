use Rattle.std.proofs.Common.{◌≡◌, [], replicate}
use Rattle.pt_queue.proofs.lines.Lines.new.Given as goal

abbrev pub invariant-loop : goal.invariant-loop
invariant-loop l = l.lines.items ≡ replicate l.counter []
