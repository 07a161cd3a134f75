use Rattle.pt_paced_laws.proofs.PacedRuns.{missed_when_paced}
use Rattle.pt_paced_laws.proofs.paced.only_actuators_miss_when_paced.Goals as goal

pub returns : goal.returns
returns c = missed_when_paced
