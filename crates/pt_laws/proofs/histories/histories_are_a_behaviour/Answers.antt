use Rattle.pt_laws.proofs.Finish.{histories_behave}
use Rattle.pt_laws.proofs.histories.histories_are_a_behaviour.Goals as goal

pub returns : goal.returns
returns c = histories_behave
