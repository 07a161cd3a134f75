use Rattle.pt_paced_laws.proofs.Existing.{meanings_exist}
use Rattle.pt_paced_laws.proofs.whole_runs.meanings_exist.Goals as goal

pub returns : goal.returns
returns c = meanings_exist
