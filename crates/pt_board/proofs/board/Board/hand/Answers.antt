use Rattle.std.proofs.Common.{◌≡◌, ◌∙◌}
use Rattle.pt_board.proofs.Opening.{holds_none}
use Rattle.pt_board.proofs.board.Board.hand.Goals as goal

pub returns-clause-none : goal.returns-clause-none
returns-clause-none c = holds_none c.keeper.inside.seat.me.0.graph c.new.result.knows (c.new.ensures.1 ∙ c.split-seat.ensures.hand.1)
