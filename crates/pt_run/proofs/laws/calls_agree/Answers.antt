use Rattle.pt_run.proofs.CallsAgreeing.{calls_agree}
use Rattle.pt_run.proofs.laws.calls_agree.Goals as goal

pub returns : goal.returns
returns c = calls_agree
