use Rattle.pt_fixed_order_laws.proofs.SoFar.{links_stay_free}
use Rattle.pt_fixed_order_laws.proofs.laws.links_stay_free.Goals as goal

pub returns : goal.returns
returns c = links_stay_free
