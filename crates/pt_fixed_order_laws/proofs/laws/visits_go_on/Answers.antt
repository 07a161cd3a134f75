use Rattle.pt_fixed_order_laws.proofs.SoFar.{visits_go_on}
use Rattle.pt_fixed_order_laws.proofs.laws.visits_go_on.Goals as goal

pub returns : goal.returns
returns c = visits_go_on
