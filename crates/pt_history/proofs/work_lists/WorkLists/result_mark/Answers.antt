use Rattle.std.proofs.Common.{◌≡◌, List, length, ap, sym, ◌∙◌, arith}
use Rattle.std.specs.Prelude.{option_map, slice_get}
use Rattle.std.specs.List.{flat_map}
use Rattle.pt_types.specs.declared.firing.Done.{Done}
use Rattle.pt_history.specs.Tasks.{mark_of}
use Rattle.pt_history.specs.WorkLists.{RoomyWorkLists}
use Rattle.pt_history.proofs.Cutting.{pieces_total}
use Rattle.pt_history.proofs.work_lists.WorkLists.result_mark.Goals as goal

pub done_mark-requires : goal.done_mark-requires
done_mark-requires c =
    let all : flat_map (λ (l : List Done). l) c.args.self.now.posted.lists ≡ c.self.inside.work.dones =
    ap (λ (v : RoomyWorkLists). flat_map (λ (l : List Done). l) v.posted.lists) (sym c.self.view_is) ∙ pieces_total 0 c.self.inside.posted.ends c.self.inside.work.dones c.self.invariant.posted.rises in
    omega (arith, ap length all, c.requires)

pub returns : goal.returns
returns c =
    let all : flat_map (λ (l : List Done). l) c.args.self.now.posted.lists ≡ c.self.inside.work.dones =
    ap (λ (v : RoomyWorkLists). flat_map (λ (l : List Done). l) v.posted.lists) (sym c.self.view_is) ∙ pieces_total 0 c.self.inside.posted.ends c.self.inside.work.dones c.self.invariant.posted.rises in
    ap (λ ds. option_map (λ (done : Done). mark_of done.task) (slice_get ds c.args.number)) all ∙ c.done_mark.ensures
