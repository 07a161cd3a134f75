use Rattle.std.proofs.Common.{◌≡◌, ◌-◌, ◌<◌, ◌∷◌, get_or, Some, length, take, drop, ap, sym, ◌∙◌, arith}
use Rattle.std.specs.Prelude.{slice_get}
use Rattle.pt_history.specs.Lists.{RoomyLists}
use Rattle.pt_history.proofs.Cutting.{length-pieces, pieces_get}
use Rattle.pt_history.proofs.pieces.Pieces.get.Goals as goal

pub is_bare-requires : goal.is_bare-requires
is_bare-requires g c =
    let lists : length c.args.self.now.lists ≡ length c.self.inside.ends.ends = ap (λ (v : RoomyLists g.row.T.Denot). length v.lists) (sym c.self.view_is) ∙ length-pieces 0 c.self.inside.ends.ends c.self.inside.items.items in
    omega (arith, lists)

pub returns-then-is_bare : goal.returns-then-is_bare
returns-then-is_bare g c =
    let ends = c.self.inside.ends.ends in
    let items = c.self.inside.items.items in
    let lists : length c.args.self.now.lists ≡ length ends = ap (λ (v : RoomyLists g.row.T.Denot). length v.lists) (sym c.self.view_is) ∙ length-pieces 0 ends items in
    let inside : c.args.number < length ends = omega (arith, lists) in
    let start = get_or (0 ∷ ends) c.args.number 0 in
    let end = get_or ends c.args.number 0 in
    let same : start ≡ end = c.is_bare.ensures c.if-is_bare.true in
    let none : end - start ≡ 0 = omega (arith, same) in
    ap (λ (v : RoomyLists g.row.T.Denot). slice_get v.lists c.args.number) (sym c.self.view_is)
    ∙ pieces_get 0 ends items c.args.number inside c.self.invariant.0
    ∙ ap (λ k. Some (take k (drop start items))) none
