use Rattle.pt_fixed_order_laws.proofs.Whole.{fixed_order_is_legal}
use Rattle.pt_fixed_order_laws.proofs.laws.fixed_order_is_legal.Goals as goal

pub returns : goal.returns
returns c = fixed_order_is_legal
