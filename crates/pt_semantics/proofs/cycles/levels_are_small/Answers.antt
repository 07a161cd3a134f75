use Rattle.pt_semantics.proofs.Acyclic.{levels_are_small}
use Rattle.pt_semantics.proofs.cycles.levels_are_small.Goals as goal

pub returns : goal.returns
returns c = levels_are_small
