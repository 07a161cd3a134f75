use Rattle.pt_run.proofs.AgreeingInBounds.{in_bounds_agree}
use Rattle.pt_run.proofs.laws.replays_in_bounds_agree_with_runs.Goals as goal

pub returns : goal.returns
returns c = in_bounds_agree
