use Rattle.std.proofs.Common.{◌≡◌, ◌⊎◌, subst}
use Rattle.pt_run.specs.declared.fault.Fault.{Fault}
use Rattle.pt_run.specs.declared.fault.Fault.TheVariants.{Memory}
use Rattle.pt_run.proofs.Planned.{no_plan_memory, plan_refused}
use Rattle.pt_run.proofs.admission.planned.Goals as goal

pub returns-in-Err-clause-refused : goal.returns-in-Err-clause-refused
returns-in-Err-clause-refused g c =
    plan_refused c.in-Err.field-0.fault c.report-fault.result c.args.graph c.refused.result c.in-Err.ensures.fault (subst (λ (f : Fault). (c.report-fault.result ≡ f) ⊎ (c.report-fault.result ≡ Memory)) c.fault_of_plan.ensures c.report-fault.ensures.fault)
    c.refused.ensures.fault c.refused.ensures.left

pub returns-clause-refused : goal.returns-clause-refused
returns-clause-refused g c =
    no_plan_memory c.report-fault-in-Err-new.result c.args.graph c.refused-in-Err-new.result c.report-fault-in-Err-new.ensures.fault c.refused-in-Err-new.ensures.fault c.refused-in-Err-new.ensures.left
