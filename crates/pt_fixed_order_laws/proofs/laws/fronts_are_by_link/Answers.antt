use Rattle.pt_fixed_order_laws.proofs.Fronts.{fronts_are_by_link}
use Rattle.pt_fixed_order_laws.proofs.laws.fronts_are_by_link.Goals as goal

pub returns : goal.returns
returns c = fronts_are_by_link
