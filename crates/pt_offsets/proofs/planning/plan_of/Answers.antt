use Rattle.std.proofs.Common.{sym, subst}
use Rattle.pt_semantics.proofs.Acyclic.{levels_forbid_cycles}
use Rattle.pt_causality.specs.Delays.{AreLeast, AreSmall}
use Rattle.pt_causality.specs.Ranked.{level_of}
use Rattle.pt_offsets.proofs.planning.plan_of.Goals as goal

-- a graph that has levels has no cycle that takes no time
pub returns-in-Err-offsets-clause-fault : goal.returns-in-Err-offsets-clause-fault
returns-in-Err-offsets-clause-fault c = (levels_forbid_cycles c.args.graph (level_of c.in-Ok.ranks) c.in-Ok.ensures.levels, c.in-Err-offsets.ensures.infeasible)

pub new-requires-clause-least : goal.new-requires-clause-least
new-requires-clause-least c = subst (AreLeast c.args.graph) (sym c.with_before-least.ensures) c.in-Ok-least_delays.ensures.least

pub new-requires-clause-small : goal.new-requires-clause-small
new-requires-clause-small c = subst AreSmall (sym c.with_before-least.ensures) c.in-Ok-least_delays.ensures.small
