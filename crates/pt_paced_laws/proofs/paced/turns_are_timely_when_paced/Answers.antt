use Rattle.pt_paced_laws.proofs.PacedRuns.{timely_when_paced}
use Rattle.pt_paced_laws.proofs.paced.turns_are_timely_when_paced.Goals as goal

pub returns : goal.returns
returns c = timely_when_paced
