use Rattle.pt_replay_laws.proofs.Times.{all_later}
use Rattle.pt_replay_laws.proofs.laws.quiet_rounds_leave_what_is_later.Goals as goal

pub returns : goal.returns
returns c = all_later
