use Rattle.pt_laws.proofs.Bounds.{outgoing_orderly}
use Rattle.pt_laws.proofs.histories.outgoing_lists_are_orderly.Goals as goal

pub returns : goal.returns
returns c = outgoing_orderly
