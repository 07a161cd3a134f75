use Rattle.pt_laws.proofs.Candidates.{turn_claims}
use Rattle.pt_laws.proofs.turns.claims_are_fronts.Goals as goal

pub returns : goal.returns
returns c = turn_claims
