use Rattle.pt_laws.proofs.KeptTurns.{settled_is_legal}
use Rattle.pt_laws.proofs.histories.settled_histories_stay_legal.Goals as goal

pub returns : goal.returns
returns c = settled_is_legal
