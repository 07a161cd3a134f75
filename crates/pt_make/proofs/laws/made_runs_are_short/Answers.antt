use Rattle.pt_make.proofs.Steady.{never_long}
use Rattle.pt_make.proofs.laws.made_runs_are_short.Goals as goal

pub returns : goal.returns
returns c = λ n level offset y few are has run i lt. never_long n few level offset are has y run i lt
