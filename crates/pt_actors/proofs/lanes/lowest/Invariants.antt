use Rattle.std.proofs.Common.{◌≡◌, drop}
use Rattle.pt_semantics.specs.Lists.{first_of}
use Rattle.pt_semantics.specs.Firing.{identity}
use Rattle.pt_actors.proofs.lanes.lowest.Given as goal

abbrev pub invariant-loop-value : goal.invariant-loop-value
invariant-loop-value l = first_of identity (drop l.value-index l.values) ≡ first_of identity l.values
