use Rattle.std.proofs.Common.{length, ap, sym, ◌∙◌}
use Rattle.pt_history.specs.Lists.{RoomyLists}
use Rattle.pt_history.proofs.Cutting.{length-pieces}
use Rattle.pt_history.proofs.pieces.Pieces.len.Goals as goal

pub returns : goal.returns
returns g c = c.len.ensures ∙ sym (length-pieces 0 c.self.inside.ends.ends c.self.inside.items.items) ∙ ap (λ (v : RoomyLists g.row.T.Denot). length v.lists) c.self.view_is
