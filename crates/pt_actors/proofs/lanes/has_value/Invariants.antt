use Rattle.std.proofs.Common.{◌≡◌, drop}
use Rattle.pt_semantics.specs.Firing.{any_present}
use Rattle.pt_actors.proofs.lanes.has_value.Given as goal

abbrev pub invariant-loop-value : goal.invariant-loop-value
invariant-loop-value l = any_present (drop l.value-index l.values) ≡ any_present l.values
