use Rattle.pt_paced_laws.proofs.Kept.{none_is_late}
use Rattle.pt_paced_laws.proofs.whole_runs.no_kept_turn_is_late.Goals as goal

pub returns : goal.returns
returns c = none_is_late
