use Rattle.pt_audit.proofs.Lawful.{fine_is_lawful}
use Rattle.pt_audit.proofs.laws.fine_logs_are_lawful.Goals as goal

pub returns : goal.returns
returns c = fine_is_lawful
