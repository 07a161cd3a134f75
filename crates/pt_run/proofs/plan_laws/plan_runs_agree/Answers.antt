use Rattle.pt_run.proofs.RunsAgreeing.{runs_agree}
use Rattle.pt_run.proofs.plan_laws.plan_runs_agree.Goals as goal

pub returns : goal.returns
returns c = runs_agree
