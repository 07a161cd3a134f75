use Rattle.pt_live_laws.proofs.Written.{lines_in_order}
use Rattle.pt_live_laws.proofs.laws.lines_in_order.Goals as goal

pub returns : goal.returns
returns c = lines_in_order
