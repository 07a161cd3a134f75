use Rattle.std.proofs.Common.{List, length, ap, sym, ◌∙◌}
use Rattle.std.specs.List.{flat_map}
use Rattle.pt_types.specs.declared.firing.Done.{Done}
use Rattle.pt_history.specs.WorkLists.{RoomyWorkLists}
use Rattle.pt_history.proofs.Cutting.{pieces_total}
use Rattle.pt_history.proofs.work_lists.WorkLists.results.Goals as goal

pub returns : goal.returns
returns c =
    c.results.ensures
    ∙ ap length (sym (pieces_total 0 c.self.inside.posted.ends c.self.inside.work.dones c.self.invariant.posted.rises))
    ∙ ap (λ (v : RoomyWorkLists). length (flat_map (λ (l : List Done). l) v.posted.lists)) c.self.view_is
