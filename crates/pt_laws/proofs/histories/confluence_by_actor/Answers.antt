use Rattle.pt_laws.proofs.ByActor.{by_actor}
use Rattle.pt_laws.proofs.histories.confluence_by_actor.Goals as goal

pub returns : goal.returns
returns c = by_actor
