use Rattle.std.proofs.Common.{◌≡◌, ◌<◌, length, ap, sym, ◌∙◌, arith}
use Rattle.std.specs.Prelude.{slice_get}
use Rattle.pt_history.specs.WorkLists.{RoomyWorkLists}
use Rattle.pt_history.proofs.Cutting.{empty_piece, length-pieces}
use Rattle.pt_history.proofs.work_lists.WorkLists.posted_levels.Goals as goal

pub returns : goal.returns
returns c = λ n at lt is.
    let ends = c.self.inside.posted.ends in
    let items = c.self.inside.work.dones in
    let lists : length c.args.self.now.posted.lists ≡ length ends = ap (λ (v : RoomyWorkLists). length v.posted.lists) (sym c.self.view_is) ∙ length-pieces 0 ends items in
    let inside : n < length ends = omega (arith, lists, lt) in
    ap (λ (v : RoomyWorkLists). slice_get v.posted.lists n) (sym c.self.view_is) ∙ empty_piece ends items n inside c.self.invariant.posted.rises (c.levels.ensures n at inside is)
