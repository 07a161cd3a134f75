use Rattle.pt_audit.proofs.FineLogs.{lawful_is_fine}
use Rattle.pt_audit.proofs.laws.lawful_logs_are_fine.Goals as goal

pub returns : goal.returns
returns c = lawful_is_fine
