use Rattle.pt_paced_laws.proofs.Missed.{missed_is_in_meaning}
use Rattle.pt_paced_laws.proofs.paced.missed_entries_are_in_the_meaning.Goals as goal

pub returns : goal.returns
returns c = missed_is_in_meaning
