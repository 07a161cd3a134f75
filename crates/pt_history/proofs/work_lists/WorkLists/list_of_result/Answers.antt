use Rattle.std.proofs.Common.{◌≡◌, ◌+◌, ◌<◌, ◌≤◌, suc, List, length, take, ap, sym, subst, ◌∙◌, arith}
use Rattle.std.specs.List.{flat_map}
use Rattle.pt_types.specs.declared.firing.Done.{Done}
use Rattle.pt_history.specs.WorkLists.{RoomyWorkLists}
use Rattle.pt_history.proofs.Cutting.{length-pieces, pieces_before, pieces_total}
use Rattle.pt_history.proofs.work_lists.WorkLists.list_of_result.Goals as goal

pub list_of-requires : goal.list_of-requires
list_of-requires c =
    let all : flat_map (λ (l : List Done). l) c.args.self.now.posted.lists ≡ c.self.inside.work.dones =
    ap (λ (v : RoomyWorkLists). flat_map (λ (l : List Done). l) v.posted.lists) (sym c.self.view_is) ∙ pieces_total 0 c.self.inside.posted.ends c.self.inside.work.dones c.self.invariant.posted.rises in
    omega (arith, ap length all, c.requires, c.self.invariant.posted.total)

pub returns-clause-within : goal.returns-clause-within
returns-clause-within c =
    let lists : length c.args.self.now.posted.lists ≡ length c.self.inside.posted.ends = ap (λ (v : RoomyWorkLists). length v.posted.lists) (sym c.self.view_is) ∙ length-pieces 0 c.self.inside.posted.ends c.self.inside.work.dones in
    omega (arith, lists, c.list_of.ensures.within)

pub returns-clause-starts : goal.returns-clause-starts
returns-clause-starts c =
    let before = pieces_before 0 c.self.inside.posted.ends c.self.inside.work.dones c.list_of.result (omega (arith, c.list_of.ensures.within)) c.self.invariant.posted.rises in
    subst (λ (v : RoomyWorkLists). length (flat_map (λ (l : List Done). l) (take c.list_of.result v.posted.lists)) ≤ c.args.number) c.self.view_is (omega (arith, before, c.list_of.ensures.starts))

pub returns-clause-ends : goal.returns-clause-ends
returns-clause-ends c =
    let before = pieces_before 0 c.self.inside.posted.ends c.self.inside.work.dones (suc c.list_of.result) (omega (arith, c.list_of.ensures.within)) c.self.invariant.posted.rises in
    let next : suc c.list_of.result ≡ c.list_of.result + 1 = omega arith in
    subst (λ k. c.args.number < length (flat_map (λ (l : List Done). l) (take k c.args.self.now.posted.lists))) next
    (subst (λ (v : RoomyWorkLists). c.args.number < length (flat_map (λ (l : List Done). l) (take (suc c.list_of.result) v.posted.lists))) c.self.view_is (omega (arith, before, c.list_of.ensures.ends)))
