use Rattle.pt_paced_laws.proofs.OneRun.{runs_are_one}
use Rattle.pt_paced_laws.proofs.whole_runs.whole_runs_are_one.Goals as goal

pub returns : goal.returns
returns c = runs_are_one
