use Rattle.pt_semantics.proofs.Acyclic.{levels_exist}
use Rattle.pt_semantics.proofs.cycles.levels_exist.Goals as goal

pub returns : goal.returns
returns c = levels_exist
