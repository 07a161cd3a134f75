use Rattle.pt_laws.proofs.MeaningSteps.{meaning_behaves}
use Rattle.pt_laws.proofs.meaning.meaning_is_a_behaviour.Goals as goal

pub returns : goal.returns
returns c = meaning_behaves
