use Rattle.pt_paced_laws.proofs.OneOrder.{fixed_order_is_one}
use Rattle.pt_paced_laws.proofs.fixed_order.fixed_order_is_one.Goals as goal

pub returns : goal.returns
returns c = fixed_order_is_one
