use Rattle.std.proofs.Common.{◌≡◌, ◌<◌, ◌+◌, [], length, ap, sym, subst, ◌∙◌, arith, get_or, refl}
use Rattle.std.specs.Prelude.{option_map, slice_get}
use Rattle.pt_history.specs.Tasks.{mark_of}
use Rattle.pt_history.specs.WorkLists.{RoomyWorkLists}
use Rattle.pt_history.proofs.Cutting.{length-pieces}
use Rattle.pt_history.proofs.Ended.{IsCut, cut_at, cut_item, cut_within}
use Rattle.pt_history.proofs.work_lists.WorkLists.claim_mark.Goals as goal

pub start-requires : goal.start-requires
start-requires c =
    let lists : length c.args.self.now.claimed.lists ≡ length c.self.inside.claimed.ends = ap (λ (v : RoomyWorkLists). length v.claimed.lists) (sym c.self.view_is) ∙ length-pieces 0 c.self.inside.claimed.ends c.self.inside.work.tasks in
    omega (arith, lists, c.requires.list)

pub mark-requires : goal.mark-requires
mark-requires c =
    let end = get_or c.self.inside.claimed.ends c.args.list 0 in
    let cut : IsCut c.self.inside.claimed.ends c.self.inside.work.tasks c.args.list c.start.result end = cut_at c.self.inside.claimed c.self.inside.work.tasks c.self.inside.work.spare_tasks c.args.list c.start.result end c.self.invariant.claimed
    (subst (λ (v : RoomyWorkLists). c.args.list < length v.claimed.lists) (sym c.self.view_is) c.requires.list) c.start.ensures refl in
    let low : c.start.result + c.args.number < end = cut_within c.self.inside.claimed.ends c.self.inside.work.tasks c.args.list c.start.result end c.args.number cut
    (subst (λ (v : RoomyWorkLists). c.args.number < length (get_or v.claimed.lists c.args.list [])) (sym c.self.view_is) c.requires.number) in
    omega (arith, low, cut.within)

pub overflow_add-start : goal.overflow_add-start
overflow_add-start c =
    let end = get_or c.self.inside.claimed.ends c.args.list 0 in
    let cut : IsCut c.self.inside.claimed.ends c.self.inside.work.tasks c.args.list c.start.result end = cut_at c.self.inside.claimed c.self.inside.work.tasks c.self.inside.work.spare_tasks c.args.list c.start.result end c.self.invariant.claimed
    (subst (λ (v : RoomyWorkLists). c.args.list < length v.claimed.lists) (sym c.self.view_is) c.requires.list) c.start.ensures refl in
    let low : c.start.result + c.args.number < end = cut_within c.self.inside.claimed.ends c.self.inside.work.tasks c.args.list c.start.result end c.args.number cut
    (subst (λ (v : RoomyWorkLists). c.args.number < length (get_or v.claimed.lists c.args.list [])) (sym c.self.view_is) c.requires.number) in
    omega (arith, low, cut.within, c.self.invariant.claimed.fits)

pub returns : goal.returns
returns c =
    let end = get_or c.self.inside.claimed.ends c.args.list 0 in
    let cut : IsCut c.self.inside.claimed.ends c.self.inside.work.tasks c.args.list c.start.result end = cut_at c.self.inside.claimed c.self.inside.work.tasks c.self.inside.work.spare_tasks c.args.list c.start.result end c.self.invariant.claimed
    (subst (λ (v : RoomyWorkLists). c.args.list < length v.claimed.lists) (sym c.self.view_is) c.requires.list) c.start.ensures refl in
    ap (λ (v : RoomyWorkLists). option_map mark_of (slice_get (get_or v.claimed.lists c.args.list []) c.args.number)) (sym c.self.view_is)
    ∙ ap (option_map mark_of) (cut_item c.self.inside.claimed.ends c.self.inside.work.tasks c.args.list c.start.result end c.args.number cut
    (subst (λ (v : RoomyWorkLists). c.args.number < length (get_or v.claimed.lists c.args.list [])) (sym c.self.view_is) c.requires.number)) ∙ c.mark.ensures
