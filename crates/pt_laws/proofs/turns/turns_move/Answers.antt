use Rattle.pt_laws.proofs.Progress.{turns_move}
use Rattle.pt_laws.proofs.turns.turns_move.Goals as goal

pub returns : goal.returns
returns c = turns_move
