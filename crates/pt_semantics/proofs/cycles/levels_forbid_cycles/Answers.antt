use Rattle.pt_semantics.proofs.Acyclic.{levels_forbid_cycles}
use Rattle.pt_semantics.proofs.cycles.levels_forbid_cycles.Goals as goal

pub returns : goal.returns
returns c = levels_forbid_cycles
