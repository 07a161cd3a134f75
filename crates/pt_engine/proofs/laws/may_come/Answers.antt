use Rattle.pt_engine.proofs.Showing.{may_come}
use Rattle.pt_engine.proofs.laws.may_come.Goals as goal

pub returns : goal.returns
returns c = may_come
