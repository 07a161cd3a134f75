use Rattle.pt_replay_laws.proofs.Times.{never_falls}
use Rattle.pt_replay_laws.proofs.laws.true_time_never_falls.Goals as goal

pub returns : goal.returns
returns c = never_falls
