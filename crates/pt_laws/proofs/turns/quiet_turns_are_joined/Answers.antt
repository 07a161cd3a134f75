use Rattle.pt_laws.proofs.Joined.{quiet_turns_join}
use Rattle.pt_laws.proofs.turns.quiet_turns_are_joined.Goals as goal

pub returns : goal.returns
returns c = quiet_turns_join
