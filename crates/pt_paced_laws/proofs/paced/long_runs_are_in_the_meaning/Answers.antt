use Rattle.pt_paced_laws.proofs.Long.{long_exactly}
use Rattle.pt_paced_laws.proofs.paced.long_runs_are_in_the_meaning.Goals as goal

pub returns : goal.returns
returns c = long_exactly
