use Rattle.pt_laws.proofs.Confluent.{confluence_on}
use Rattle.pt_laws.proofs.histories.confluence_where_settled.Goals as goal

pub returns : goal.returns
returns c = confluence_on
