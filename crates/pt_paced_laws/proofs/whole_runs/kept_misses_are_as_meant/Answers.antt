use Rattle.pt_paced_laws.proofs.Kept.{missed_as_meant}
use Rattle.pt_paced_laws.proofs.whole_runs.kept_misses_are_as_meant.Goals as goal

pub returns : goal.returns
returns c = missed_as_meant
