use Rattle.pt_fixed_order_laws.proofs.SoFar.{links_are_free}
use Rattle.pt_fixed_order_laws.proofs.laws.links_are_free.Goals as goal

pub returns : goal.returns
returns c = links_are_free
