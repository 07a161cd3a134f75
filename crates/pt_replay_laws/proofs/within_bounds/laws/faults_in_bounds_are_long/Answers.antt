use Rattle.pt_replay_laws.proofs.InBounds.Replays.{faults_are_long}
use Rattle.pt_replay_laws.proofs.within_bounds.laws.faults_in_bounds_are_long.Goals as goal

pub returns : goal.returns
returns c = faults_are_long
