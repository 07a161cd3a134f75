use Rattle.pt_laws.proofs.KeptTurns.{kept_is_legal}
use Rattle.pt_laws.proofs.histories.kept_turns_are_legal.Goals as goal

pub returns : goal.returns
returns c = kept_is_legal
