use Rattle.pt_laws.proofs.Read.{read_on}
use Rattle.pt_laws.proofs.histories.histories_are_read_on.Goals as goal

pub returns : goal.returns
returns c = read_on
