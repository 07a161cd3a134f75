use Rattle.pt_fixed_order_laws.proofs.SoFar.{visits_end}
use Rattle.pt_fixed_order_laws.proofs.laws.visits_end.Goals as goal

pub returns : goal.returns
returns c = visits_end
