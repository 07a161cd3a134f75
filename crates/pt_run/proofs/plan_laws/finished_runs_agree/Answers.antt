use Rattle.pt_run.proofs.RunsAgreeing.{finished_agree}
use Rattle.pt_run.proofs.plan_laws.finished_runs_agree.Goals as goal

pub returns : goal.returns
returns c = finished_agree
