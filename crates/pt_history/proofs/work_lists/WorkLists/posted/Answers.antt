use Rattle.std.proofs.Common.{◌≡◌, ◌-◌, ◌<◌, ◌∷◌, [], refl, get_or, length, ap, sym, subst, ◌∙◌, arith}
use Rattle.pt_history.specs.WorkLists.{RoomyWorkLists}
use Rattle.pt_history.proofs.Cutting.{length-pieces}
use Rattle.pt_history.proofs.Ended.{IsCut, cut_at, cut_length}
use Rattle.pt_history.proofs.work_lists.WorkLists.posted.Goals as goal

pub end-requires : goal.end-requires
end-requires c =
    let lists : length c.args.self.now.posted.lists ≡ length c.self.inside.posted.ends = ap (λ (v : RoomyWorkLists). length v.posted.lists) (sym c.self.view_is) ∙ length-pieces 0 c.self.inside.posted.ends c.self.inside.work.dones in
    omega (arith, lists, c.requires)

pub start-requires : goal.start-requires
start-requires c =
    let lists : length c.args.self.now.posted.lists ≡ length c.self.inside.posted.ends = ap (λ (v : RoomyWorkLists). length v.posted.lists) (sym c.self.view_is) ∙ length-pieces 0 c.self.inside.posted.ends c.self.inside.work.dones in
    omega (arith, lists, c.requires)

pub overflow_sub-result : goal.overflow_sub-result
overflow_sub-result c =
    let cut : IsCut c.self.inside.posted.ends c.self.inside.work.dones c.args.list c.start.result c.end.result = cut_at c.self.inside.posted c.self.inside.work.dones c.self.inside.work.spare_dones c.args.list c.start.result c.end.result c.self.invariant.posted
    (subst (λ (v : RoomyWorkLists). c.args.list < length v.posted.lists) (sym c.self.view_is) c.requires) c.start.ensures c.end.ensures in
    cut.rises

pub returns : goal.returns
returns c =
    let cut : IsCut c.self.inside.posted.ends c.self.inside.work.dones c.args.list c.start.result c.end.result = cut_at c.self.inside.posted c.self.inside.work.dones c.self.inside.work.spare_dones c.args.list c.start.result c.end.result c.self.invariant.posted
    (subst (λ (v : RoomyWorkLists). c.args.list < length v.posted.lists) (sym c.self.view_is) c.requires) c.start.ensures c.end.ensures in
    cut_length c.self.inside.posted.ends c.self.inside.work.dones c.args.list c.start.result c.end.result cut
    ∙ ap (λ (v : RoomyWorkLists). length (get_or v.posted.lists c.args.list [])) c.self.view_is

pub is_bare-requires : goal.is_bare-requires
is_bare-requires c =
    let lists : length c.args.self.now.posted.lists ≡ length c.self.inside.posted.ends = ap (λ (v : RoomyWorkLists). length v.posted.lists) (sym c.self.view_is) ∙ length-pieces 0 c.self.inside.posted.ends c.self.inside.work.dones in
    omega (arith, lists, c.requires)

pub returns-then-is_bare : goal.returns-then-is_bare
returns-then-is_bare c =
    let start = get_or (0 ∷ c.self.inside.posted.ends) c.args.list 0 in
    let end = get_or c.self.inside.posted.ends c.args.list 0 in
    let cut : IsCut c.self.inside.posted.ends c.self.inside.work.dones c.args.list start end = cut_at c.self.inside.posted c.self.inside.work.dones c.self.inside.work.spare_dones c.args.list start end c.self.invariant.posted
    (subst (λ (v : RoomyWorkLists). c.args.list < length v.posted.lists) (sym c.self.view_is) c.requires) refl refl in
    let same : start ≡ end = c.is_bare.ensures c.if-is_bare.true in
    let none : 0 ≡ end - start = omega (arith, same) in
    none
    ∙ cut_length c.self.inside.posted.ends c.self.inside.work.dones c.args.list start end cut
    ∙ ap (λ (v : RoomyWorkLists). length (get_or v.posted.lists c.args.list [])) c.self.view_is
