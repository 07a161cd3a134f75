use Rattle.pt_turn.proofs.Moving.{platforms_wait}
use Rattle.pt_turn.proofs.laws.platforms_wait.Goals as goal

pub returns : goal.returns
returns c = platforms_wait
