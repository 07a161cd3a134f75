use Rattle.pt_run.proofs.InBounds.{in_bounds_as_paced}
use Rattle.pt_run.proofs.laws.replays_in_bounds_do_as_paced.Goals as goal

pub returns : goal.returns
returns c = in_bounds_as_paced
