use Rattle.pt_paced_laws.proofs.PacedRuns.{none_late}
use Rattle.pt_paced_laws.proofs.paced.no_message_is_late_when_paced.Goals as goal

pub returns : goal.returns
returns c = none_late
