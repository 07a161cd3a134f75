use Rattle.pt_audit.proofs.Printing.{printed_is_lawful}
use Rattle.pt_audit.proofs.laws.printed_logs_are_lawful.Goals as goal

pub returns : goal.returns
returns c = printed_is_lawful
