use Rattle.pt_replay_laws.proofs.InBounds.Replays.{replays_keep_pace}
use Rattle.pt_replay_laws.proofs.within_bounds.laws.replays_in_bounds_keep_pace.Goals as goal

pub returns : goal.returns
returns c = replays_keep_pace
