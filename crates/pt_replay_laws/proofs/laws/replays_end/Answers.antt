use Rattle.pt_replay_laws.proofs.Ending.{replays_end}
use Rattle.pt_replay_laws.proofs.laws.replays_end.Goals as goal

pub returns : goal.returns
returns c = replays_end
