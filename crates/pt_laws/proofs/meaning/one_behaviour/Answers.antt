use Rattle.pt_laws.proofs.Agree.{behaviours_agree}
use Rattle.pt_laws.proofs.meaning.one_behaviour.Goals as goal

pub returns : goal.returns
returns c = behaviours_agree
