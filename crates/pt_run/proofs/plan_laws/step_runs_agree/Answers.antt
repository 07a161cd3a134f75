use Rattle.pt_run.proofs.StepsAgreeing.{steps_agree}
use Rattle.pt_run.proofs.plan_laws.step_runs_agree.Goals as goal

pub returns : goal.returns
returns c = steps_agree
