use Rattle.pt_semantics.proofs.Acyclic.{ranks_exist}
use Rattle.pt_semantics.proofs.cycles.ranks_exist.Goals as goal

pub returns : goal.returns
returns c = ranks_exist
