use Rattle.pt_workers.proofs.LinkEnds.Numbered.{numbered_in_order}
use Rattle.pt_workers.proofs.ends.laws.numbered_are_in_order.Goals as goal

pub returns : goal.returns
returns c = numbered_in_order
