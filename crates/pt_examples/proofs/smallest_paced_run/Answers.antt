use Rattle.pt_examples.proofs.SmallestRounds.{paced_one}
use Rattle.pt_examples.proofs.smallest_paced_run.Goals as goal

pub returns : goal.returns
returns c = paced_one
