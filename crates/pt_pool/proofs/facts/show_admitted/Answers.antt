use Rattle.std.proofs.Common.{subst, ◌∙◌}
use Rattle.pt_offsets.specs.Plans.{IsAdmitted}
use Rattle.pt_pool.proofs.facts.show_admitted.Goals as goal

pub returns : goal.returns
returns c = subst IsAdmitted (c.deref.ensures ∙ c.plan.ensures) c.graph.ensures.admitted
