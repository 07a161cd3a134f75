use Rattle.std.proofs.Common.{List, ap, sym, ◌∙◌}
use Rattle.std.specs.List.{flat_map}
use Rattle.pt_history.specs.Lists.{RoomyLists}
use Rattle.pt_history.proofs.Cutting.{pieces_total}
use Rattle.pt_history.proofs.pieces.Pieces.all.Goals as goal

pub returns : goal.returns
returns g c =
    c.as_slice.ensures.value
    ∙ sym (pieces_total 0 c.self.inside.ends.ends c.self.inside.items.items c.self.invariant.0)
    ∙ ap (λ (v : RoomyLists g.row.T.Denot). flat_map (λ (l : List g.row.T.Denot). l) v.lists) c.self.view_is
