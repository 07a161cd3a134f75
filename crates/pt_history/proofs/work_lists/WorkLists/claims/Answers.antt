use Rattle.std.proofs.Common.{List, length, ap, sym, ◌∙◌}
use Rattle.std.specs.List.{flat_map}
use Rattle.pt_types.specs.declared.firing.Task.{Task}
use Rattle.pt_history.specs.WorkLists.{RoomyWorkLists}
use Rattle.pt_history.proofs.Cutting.{pieces_total}
use Rattle.pt_history.proofs.work_lists.WorkLists.claims.Goals as goal

pub returns : goal.returns
returns c =
    c.claims.ensures
    ∙ ap length (sym (pieces_total 0 c.self.inside.claimed.ends c.self.inside.work.tasks c.self.invariant.claimed.rises))
    ∙ ap (λ (v : RoomyWorkLists). length (flat_map (λ (l : List Task). l) v.claimed.lists)) c.self.view_is
