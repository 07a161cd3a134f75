use Rattle.pt_fixed_order.proofs.Growing.MoreRows.{before_grows}
use Rattle.pt_fixed_order.proofs.live.laws.before_grows.Goals as goal

pub returns : goal.returns
returns c = before_grows
