use Rattle.pt_paced_laws.proofs.Kept.{claimed_as_meant}
use Rattle.pt_paced_laws.proofs.whole_runs.kept_claims_are_as_meant.Goals as goal

pub returns : goal.returns
returns c = claimed_as_meant
