use Rattle.std.proofs.Common.{◌≡◌, ◌+◌, suc, List, length, take, ap, sym, subst, ◌∙◌, arith}
use Rattle.std.specs.List.{flat_map}
use Rattle.pt_types.specs.declared.firing.Done.{Done}
use Rattle.pt_history.specs.WorkLists.{RoomyWorkLists}
use Rattle.pt_history.proofs.Cutting.{length-pieces, pieces_before}
use Rattle.pt_history.proofs.work_lists.WorkLists.results_through.Goals as goal

pub end-requires : goal.end-requires
end-requires c =
    let lists : length c.args.self.now.posted.lists ≡ length c.self.inside.posted.ends = ap (λ (v : RoomyWorkLists). length v.posted.lists) (sym c.self.view_is) ∙ length-pieces 0 c.self.inside.posted.ends c.self.inside.work.dones in
    omega (arith, lists, c.requires)

pub returns : goal.returns
returns c =
    let lists : length c.args.self.now.posted.lists ≡ length c.self.inside.posted.ends = ap (λ (v : RoomyWorkLists). length v.posted.lists) (sym c.self.view_is) ∙ length-pieces 0 c.self.inside.posted.ends c.self.inside.work.dones in
    let before = pieces_before 0 c.self.inside.posted.ends c.self.inside.work.dones (suc c.args.list) (omega (arith, lists, c.requires)) c.self.invariant.posted.rises in
    let next : suc c.args.list ≡ c.args.list + 1 = omega arith in
    subst (λ k. c.end.result ≡ length (flat_map (λ (l : List Done). l) (take k c.args.self.now.posted.lists))) next
    (subst (λ (v : RoomyWorkLists). c.end.result ≡ length (flat_map (λ (l : List Done). l) (take (suc c.args.list) v.posted.lists))) c.self.view_is (omega (arith, before, c.end.ensures)))
