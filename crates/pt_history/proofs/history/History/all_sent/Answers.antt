use Rattle.std.proofs.Common.{ap, sym, ◌∙◌}
use Rattle.pt_semantics.specs.Turn.{Turn}
use Rattle.pt_history.specs.Turns.{RoomyTurns}
use Rattle.pt_history.specs.Whole.{lists_of}
use Rattle.std.specs.List.{flat_map}
use Rattle.pt_history.proofs.Reading.{all_sent}
use Rattle.pt_history.proofs.history.History.all_sent.Goals as goal

pub returns : goal.returns
returns c =
    c.all.ensures
    ∙ sym (all_sent (lists_of c.self.inside) c.self.inside.heads.items c.self.invariant.sent.lists)
    ∙ ap (λ (v : RoomyTurns). flat_map (λ (turn : Turn). turn.sent) v.turns) c.self.view_is
