use Rattle.pt_paced_laws.proofs.Quiet.{no_two_quiet}
use Rattle.pt_paced_laws.proofs.paced.quiet_rounds_stand_alone.Goals as goal

pub returns : goal.returns
returns c = no_two_quiet
