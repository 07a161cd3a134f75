use Rattle.std.proofs.Common.{◌≡◌, [], replicate}
use Rattle.pt_causality.specs.Wiring.{by_actor}
use Rattle.pt_causality.proofs.lists.EdgeLists.new.Given as goal

abbrev pub invariant-loop-actor : goal.invariant-loop-actor
invariant-loop-actor l = by_actor l.lists.items ≡ replicate l._actor []
