use Rattle.pt_paced_laws.proofs.PacedKept.{paced_are_legal}
use Rattle.pt_paced_laws.proofs.paced.paced_histories_are_legal.Goals as goal

pub returns : goal.returns
returns c = paced_are_legal
