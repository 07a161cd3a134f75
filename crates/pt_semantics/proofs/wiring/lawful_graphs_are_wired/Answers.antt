use Rattle.pt_semantics.proofs.LawfulEdges.{wired}
use Rattle.pt_semantics.proofs.wiring.lawful_graphs_are_wired.Goals as goal

pub returns : goal.returns
returns c = wired
