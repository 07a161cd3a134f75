use Rattle.std.proofs.Common.{◌≡◌, ◌<◌, ◌+◌, [], length, ap, sym, subst, ◌∙◌, arith, get_or, refl}
use Rattle.std.specs.Prelude.{slice_get}
use Rattle.pt_history.specs.WorkLists.{RoomyWorkLists}
use Rattle.pt_history.proofs.Cutting.{length-pieces}
use Rattle.pt_history.proofs.Ended.{IsCut, cut_at, cut_get, cut_within}
use Rattle.pt_history.proofs.work_lists.WorkLists.done_in.Goals as goal

pub start-requires : goal.start-requires
start-requires c =
    let lists : length c.args.self.now.posted.lists ≡ length c.self.inside.posted.ends = ap (λ (v : RoomyWorkLists). length v.posted.lists) (sym c.self.view_is) ∙ length-pieces 0 c.self.inside.posted.ends c.self.inside.work.dones in
    omega (arith, lists, c.requires.list)

pub done-requires : goal.done-requires
done-requires c =
    let end = get_or c.self.inside.posted.ends c.args.list 0 in
    let cut : IsCut c.self.inside.posted.ends c.self.inside.work.dones c.args.list c.start.result end = cut_at c.self.inside.posted c.self.inside.work.dones c.self.inside.work.spare_dones c.args.list c.start.result end c.self.invariant.posted
    (subst (λ (v : RoomyWorkLists). c.args.list < length v.posted.lists) (sym c.self.view_is) c.requires.list) c.start.ensures refl in
    let low : c.start.result + c.args.number < end = cut_within c.self.inside.posted.ends c.self.inside.work.dones c.args.list c.start.result end c.args.number cut
    (subst (λ (v : RoomyWorkLists). c.args.number < length (get_or v.posted.lists c.args.list [])) (sym c.self.view_is) c.requires.number) in
    omega (arith, low, cut.within)

pub overflow_add-start : goal.overflow_add-start
overflow_add-start c =
    let end = get_or c.self.inside.posted.ends c.args.list 0 in
    let cut : IsCut c.self.inside.posted.ends c.self.inside.work.dones c.args.list c.start.result end = cut_at c.self.inside.posted c.self.inside.work.dones c.self.inside.work.spare_dones c.args.list c.start.result end c.self.invariant.posted
    (subst (λ (v : RoomyWorkLists). c.args.list < length v.posted.lists) (sym c.self.view_is) c.requires.list) c.start.ensures refl in
    let low : c.start.result + c.args.number < end = cut_within c.self.inside.posted.ends c.self.inside.work.dones c.args.list c.start.result end c.args.number cut
    (subst (λ (v : RoomyWorkLists). c.args.number < length (get_or v.posted.lists c.args.list [])) (sym c.self.view_is) c.requires.number) in
    omega (arith, low, cut.within, c.self.invariant.posted.fits)

pub returns : goal.returns
returns c =
    let end = get_or c.self.inside.posted.ends c.args.list 0 in
    let cut : IsCut c.self.inside.posted.ends c.self.inside.work.dones c.args.list c.start.result end = cut_at c.self.inside.posted c.self.inside.work.dones c.self.inside.work.spare_dones c.args.list c.start.result end c.self.invariant.posted
    (subst (λ (v : RoomyWorkLists). c.args.list < length v.posted.lists) (sym c.self.view_is) c.requires.list) c.start.ensures refl in
    ap (λ (v : RoomyWorkLists). slice_get (get_or v.posted.lists c.args.list []) c.args.number) (sym c.self.view_is)
    ∙ cut_get c.self.inside.posted.ends c.self.inside.work.dones c.args.list c.start.result end c.args.number c.done.result cut
    (subst (λ (v : RoomyWorkLists). c.args.number < length (get_or v.posted.lists c.args.list [])) (sym c.self.view_is) c.requires.number) c.done.ensures
