use Rattle.pt_replay_laws.proofs.Replays.{replays_are_legal}
use Rattle.pt_replay_laws.proofs.laws.replayed_histories_are_legal.Goals as goal

pub returns : goal.returns
returns c = replays_are_legal
