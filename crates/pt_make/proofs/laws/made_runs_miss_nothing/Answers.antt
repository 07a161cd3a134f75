use Rattle.pt_make.proofs.Timely.{never_missed}
use Rattle.pt_make.proofs.laws.made_runs_miss_nothing.Goals as goal

pub returns : goal.returns
returns c = λ n level offset y few are has run i a limit turn t lt mem missed. never_missed n few level offset are has y run i lt turn mem a limit t missed
