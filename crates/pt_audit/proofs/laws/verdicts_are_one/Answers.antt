use Rattle.pt_audit.proofs.OneVerdict.{file_once}
use Rattle.pt_audit.proofs.laws.verdicts_are_one.Goals as goal

pub returns : goal.returns
returns c = file_once
