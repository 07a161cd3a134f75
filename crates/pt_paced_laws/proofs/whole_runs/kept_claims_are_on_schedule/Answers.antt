use Rattle.pt_paced_laws.proofs.Kept.{all_on_schedule}
use Rattle.pt_paced_laws.proofs.whole_runs.kept_claims_are_on_schedule.Goals as goal

pub returns : goal.returns
returns c = all_on_schedule
