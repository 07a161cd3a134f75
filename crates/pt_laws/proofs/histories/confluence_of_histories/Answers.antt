use Rattle.pt_laws.proofs.Confluent.{confluence}
use Rattle.pt_laws.proofs.histories.confluence_of_histories.Goals as goal

pub returns : goal.returns
returns c = confluence
