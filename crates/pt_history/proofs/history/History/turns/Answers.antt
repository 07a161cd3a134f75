use Rattle.std.proofs.Common.{length, ap, sym, ◌∙◌}
use Rattle.pt_history.specs.Turns.{RoomyTurns}
use Rattle.pt_history.specs.Whole.{lists_of}
use Rattle.pt_history.proofs.Reading.{length-turns}
use Rattle.pt_history.proofs.history.History.turns.Goals as goal

pub returns : goal.returns
returns c = c.len.ensures ∙ sym (length-turns (lists_of c.self.inside) 0 c.self.inside.heads.items) ∙ ap (λ (v : RoomyTurns). length v.turns) c.self.view_is
