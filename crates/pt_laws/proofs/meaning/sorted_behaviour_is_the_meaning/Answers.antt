use Rattle.pt_laws.proofs.Sorted.{sorted_is_meaning}
use Rattle.pt_laws.proofs.meaning.sorted_behaviour_is_the_meaning.Goals as goal

pub returns : goal.returns
returns c = sorted_is_meaning
