use Rattle.pt_run.proofs.WritesTables.{writes_tables}
use Rattle.pt_run.proofs.laws.writes_tables.Goals as goal

pub returns : goal.returns
returns c = writes_tables
