use Rattle.std.proofs.Common.{◌≡◌, ◌+◌, suc, List, length, take, ap, sym, subst, ◌∙◌, arith}
use Rattle.std.specs.List.{flat_map}
use Rattle.pt_types.specs.declared.firing.Task.{Task}
use Rattle.pt_history.specs.WorkLists.{RoomyWorkLists}
use Rattle.pt_history.proofs.Cutting.{length-pieces, pieces_before}
use Rattle.pt_history.proofs.work_lists.WorkLists.claims_through.Goals as goal

pub end-requires : goal.end-requires
end-requires c =
    let lists : length c.args.self.now.claimed.lists ≡ length c.self.inside.claimed.ends = ap (λ (v : RoomyWorkLists). length v.claimed.lists) (sym c.self.view_is) ∙ length-pieces 0 c.self.inside.claimed.ends c.self.inside.work.tasks in
    omega (arith, lists, c.requires)

pub returns : goal.returns
returns c =
    let lists : length c.args.self.now.claimed.lists ≡ length c.self.inside.claimed.ends = ap (λ (v : RoomyWorkLists). length v.claimed.lists) (sym c.self.view_is) ∙ length-pieces 0 c.self.inside.claimed.ends c.self.inside.work.tasks in
    let before = pieces_before 0 c.self.inside.claimed.ends c.self.inside.work.tasks (suc c.args.list) (omega (arith, lists, c.requires)) c.self.invariant.claimed.rises in
    let next : suc c.args.list ≡ c.args.list + 1 = omega arith in
    subst (λ k. c.end.result ≡ length (flat_map (λ (l : List Task). l) (take k c.args.self.now.claimed.lists))) next
    (subst (λ (v : RoomyWorkLists). c.end.result ≡ length (flat_map (λ (l : List Task). l) (take (suc c.args.list) v.claimed.lists))) c.self.view_is (omega (arith, before, c.end.ensures)))
