use Rattle.pt_semantics.proofs.Acyclic.{ranks_are_one}
use Rattle.pt_semantics.proofs.cycles.ranks_are_one.Goals as goal

pub returns : goal.returns
returns c = ranks_are_one
