use Rattle.std.proofs.Common.{◌≡◌, List, length, ap, sym, ◌∙◌, arith}
use Rattle.std.specs.Prelude.{option_map, slice_get}
use Rattle.pt_history.specs.Tasks.{mark_of}
use Rattle.std.specs.List.{flat_map}
use Rattle.pt_types.specs.declared.firing.Task.{Task}
use Rattle.pt_history.specs.WorkLists.{RoomyWorkLists}
use Rattle.pt_history.proofs.Cutting.{pieces_total}
use Rattle.pt_history.proofs.work_lists.WorkLists.mark.Goals as goal

pub mark-requires : goal.mark-requires
mark-requires c =
    let all : flat_map (λ (l : List Task). l) c.args.self.now.claimed.lists ≡ c.self.inside.work.tasks =
    ap (λ (v : RoomyWorkLists). flat_map (λ (l : List Task). l) v.claimed.lists) (sym c.self.view_is) ∙ pieces_total 0 c.self.inside.claimed.ends c.self.inside.work.tasks c.self.invariant.claimed.rises in
    omega (arith, ap length all, c.requires)

pub returns : goal.returns
returns c =
    let all : flat_map (λ (l : List Task). l) c.args.self.now.claimed.lists ≡ c.self.inside.work.tasks =
    ap (λ (v : RoomyWorkLists). flat_map (λ (l : List Task). l) v.claimed.lists) (sym c.self.view_is) ∙ pieces_total 0 c.self.inside.claimed.ends c.self.inside.work.tasks c.self.invariant.claimed.rises in
    ap (λ ts. option_map mark_of (slice_get ts c.args.number)) all ∙ c.mark.ensures
