use Rattle.pt_replay_laws.proofs.Ended.{quiet_ends_replay}
use Rattle.pt_replay_laws.proofs.laws.quiet_rounds_end_replays.Goals as goal

pub returns : goal.returns
returns c = quiet_ends_replay
