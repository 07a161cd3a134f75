use Rattle.pt_board.proofs.Opening.{hand_opens}
use Rattle.pt_board.proofs.hand.Hand.new.Goals as goal

pub invariant_of-result : goal.invariant_of-result
invariant_of-result c = hand_opens c.requires.first.0 c.args.seat c.requires.none c.requires.first.1
