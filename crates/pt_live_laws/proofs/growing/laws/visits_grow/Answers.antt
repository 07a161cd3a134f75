use Rattle.pt_live_laws.proofs.Growth.Growing.{visit_grown}
use Rattle.pt_live_laws.proofs.growing.laws.visits_grow.Goals as goal

pub returns : goal.returns
returns c = visit_grown
