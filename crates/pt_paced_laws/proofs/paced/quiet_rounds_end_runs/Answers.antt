use Rattle.pt_paced_laws.proofs.Quiet.{quiet_ends}
use Rattle.pt_paced_laws.proofs.paced.quiet_rounds_end_runs.Goals as goal

pub returns : goal.returns
returns c = quiet_ends
