use Rattle.pt_replay_laws.proofs.InBounds.Replays.{none_is_late}
use Rattle.pt_replay_laws.proofs.within_bounds.laws.no_message_is_late_in_bounds.Goals as goal

pub returns : goal.returns
returns c = none_is_late
