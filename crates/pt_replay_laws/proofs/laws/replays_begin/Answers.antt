use Rattle.pt_replay_laws.proofs.Ended.{replays_begin}
use Rattle.pt_replay_laws.proofs.laws.replays_begin.Goals as goal

pub returns : goal.returns
returns c = replays_begin
