use Rattle.pt_paced_laws.proofs.Ending.{rounds_end}
use Rattle.pt_paced_laws.proofs.whole_runs.paced_runs_end.Goals as goal

pub returns : goal.returns
returns c = rounds_end
