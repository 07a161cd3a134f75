use Rattle.pt_paced_laws.proofs.OneRun.{paced_is_one}
use Rattle.pt_paced_laws.proofs.paced.paced_histories_are_one.Goals as goal

pub returns : goal.returns
returns c = paced_is_one
