use Rattle.pt_laws.proofs.Bounds.{steps_bounded}
use Rattle.pt_laws.proofs.histories.steps_are_bounded.Goals as goal

pub returns : goal.returns
returns c = steps_bounded
