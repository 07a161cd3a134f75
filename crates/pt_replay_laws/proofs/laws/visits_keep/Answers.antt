use Rattle.pt_replay_laws.proofs.Replays.{visits_keep}
use Rattle.pt_replay_laws.proofs.laws.visits_keep.Goals as goal

pub returns : goal.returns
returns c = visits_keep
