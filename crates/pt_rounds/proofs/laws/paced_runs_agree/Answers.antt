use Rattle.pt_rounds.proofs.Agreeing.{runs_agree}
use Rattle.pt_rounds.proofs.laws.paced_runs_agree.Goals as goal

pub returns : goal.returns
returns c = runs_agree
