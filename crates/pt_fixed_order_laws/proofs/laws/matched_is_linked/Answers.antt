use Rattle.pt_fixed_order_laws.proofs.Linking.{matched_is_linked}
use Rattle.pt_fixed_order_laws.proofs.laws.matched_is_linked.Goals as goal

pub returns : goal.returns
returns c = matched_is_linked
