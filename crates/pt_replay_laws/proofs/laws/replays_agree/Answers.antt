use Rattle.pt_replay_laws.proofs.OneReplay.{replays_are_one}
use Rattle.pt_replay_laws.proofs.laws.replays_agree.Goals as goal

pub returns : goal.returns
returns c = replays_are_one
