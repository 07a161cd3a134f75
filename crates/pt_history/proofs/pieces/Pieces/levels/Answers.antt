use Rattle.std.proofs.Common.{◌≡◌, ◌<◌, length, ap, sym, ◌∙◌, arith}
use Rattle.std.specs.Prelude.{slice_get}
use Rattle.pt_history.specs.Lists.{RoomyLists}
use Rattle.pt_history.proofs.Cutting.{empty_piece, length-pieces}
use Rattle.pt_history.proofs.pieces.Pieces.levels.Goals as goal

pub returns : goal.returns
returns g c = λ n at lt is.
    let ends = c.self.inside.ends.ends in
    let items = c.self.inside.items.items in
    let lists : length c.args.self.now.lists ≡ length ends = ap (λ (v : RoomyLists g.row.T.Denot). length v.lists) (sym c.self.view_is) ∙ length-pieces 0 ends items in
    let inside : n < length ends = omega (arith, lists, lt) in
    ap (λ (v : RoomyLists g.row.T.Denot). slice_get v.lists n) (sym c.self.view_is) ∙ empty_piece ends items n inside c.self.invariant.0 (c.levels.ensures n at inside is)
