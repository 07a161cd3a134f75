use Rattle.pt_make.proofs.Shape.{feasible, lawful, no_cycle}
use Rattle.pt_make.proofs.laws.made_graphs_can_run.Goals as goal

pub returns : goal.returns
returns c = λ n few. (lawful n few, no_cycle n, feasible n)
