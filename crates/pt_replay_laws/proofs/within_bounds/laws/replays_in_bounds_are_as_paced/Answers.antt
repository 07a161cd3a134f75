use Rattle.pt_replay_laws.proofs.InBounds.AsPaced.{as_paced}
use Rattle.pt_replay_laws.proofs.within_bounds.laws.replays_in_bounds_are_as_paced.Goals as goal

pub returns : goal.returns
returns c = as_paced
