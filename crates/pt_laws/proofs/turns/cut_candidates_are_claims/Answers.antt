use Rattle.pt_laws.proofs.Candidates.{cut_claims}
use Rattle.pt_laws.proofs.turns.cut_candidates_are_claims.Goals as goal

pub returns : goal.returns
returns c = cut_claims
