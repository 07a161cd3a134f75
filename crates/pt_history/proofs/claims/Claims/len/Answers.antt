use Rattle.std.proofs.Common.{length, ap, sym, ◌∙◌}
use Rattle.pt_history.specs.Tasks.{RoomyTasks}
use Rattle.pt_history.proofs.TaskLists.{length-tasks}
use Rattle.pt_history.proofs.claims.Claims.len.Goals as goal

pub returns : goal.returns
returns c = c.len.ensures ∙ sym (length-tasks c.self.inside.marks.items c.self.inside.cells.cells c.self.invariant.0) ∙ ap (λ (v : RoomyTasks). length v.tasks) c.self.view_is
