use Rattle.pt_laws.proofs.Candidates.{claims_apart}
use Rattle.pt_laws.proofs.turns.claims_stand_apart.Goals as goal

pub returns : goal.returns
returns c = claims_apart
