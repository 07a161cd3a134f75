use Rattle.pt_turn.proofs.Moving.{platforms_move}
use Rattle.pt_turn.proofs.laws.platforms_move.Goals as goal

pub returns : goal.returns
returns c = platforms_move
