use Rattle.pt_laws.proofs.Bounds.{outgoing_orderly_after}
use Rattle.pt_laws.proofs.histories.outgoing_lists_stay_orderly.Goals as goal

pub returns : goal.returns
returns c = outgoing_orderly_after
