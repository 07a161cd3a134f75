use Rattle.std.proofs.Common.{◌≡◌, drop}
use Rattle.pt_types.specs.Ends.{misfit_from}
use Rattle.pt_graph.proofs.ends.misfit.Given as goal

abbrev pub invariant-loop-i : goal.invariant-loop-i
invariant-loop-i l = misfit_from l.links l.i (drop l.i l.actors) ≡ misfit_from l.links 0 l.actors
