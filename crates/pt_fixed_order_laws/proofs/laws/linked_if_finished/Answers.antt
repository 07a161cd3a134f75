use Rattle.pt_fixed_order_laws.proofs.Whole.{linked_if_finished}
use Rattle.pt_fixed_order_laws.proofs.laws.linked_if_finished.Goals as goal

pub returns : goal.returns
returns c = linked_if_finished
