use Rattle.pt_paced_laws.proofs.Prefix.{paced_is_prefix}
use Rattle.pt_paced_laws.proofs.paced.paced_claims_are_a_front_of_the_meaning.Goals as goal

pub returns : goal.returns
returns c = paced_is_prefix
