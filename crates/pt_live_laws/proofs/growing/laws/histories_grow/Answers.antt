use Rattle.pt_live_laws.proofs.Growth.Growing.{histories_grown}
use Rattle.pt_live_laws.proofs.growing.laws.histories_grow.Goals as goal

pub returns : goal.returns
returns c = histories_grown
