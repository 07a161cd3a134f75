use Rattle.std.proofs.Common.{◌≢◌, subst}
use Rattle.pt_offsets.specs.Faults.{CauseOfPlan}
use Rattle.pt_run.specs.declared.fault.Fault.{Fault}
use Rattle.pt_run.specs.declared.fault.Fault.TheVariants.{Memory}
use Rattle.pt_run.proofs.Made.{never_refused}
use Rattle.pt_run.proofs.make.made_plan.Goals as goal

pub unreachable-requires : goal.unreachable-requires
unreachable-requires c =
    never_refused c.args.number c.in-Err.field-0.fault (subst (CauseOfPlan c.in-Err.field-0.fault) c.in_ok-graph.ensures c.in-Err.ensures.fault)
    (subst (λ (f : Fault). f ≢ Memory) c.fault_of_plan.ensures c.in_default.not-Memory)
