use Rattle.std.proofs.Common.{◌≡◌, replicate}
use Rattle.pt_types.specs.Ports.{eight, nothing}
use Rattle.pt_meaning.proofs.ready.no_inputs.Given as goal

abbrev pub invariant-loop : goal.invariant-loop
invariant-loop l = l.inputs.items ≡ replicate l.counter (eight nothing)
