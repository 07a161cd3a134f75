use Rattle.std.proofs.Common.{◌≡◌, ◌∷◌, ◌++◌, [], ap, ◌∙◌, rules}
use Rattle.pt_history.specs.Cells.{cells_of}
use Rattle.pt_history.specs.Tasks.{RoomyTasks}
use Rattle.pt_history.proofs.TaskLists.{tasks_push}
use Rattle.pt_history.proofs.claims.Claims.push.Goals as goal

pub returns-clause-tasks : goal.returns-clause-tasks
returns-clause-tasks c =
    let cells : c.push.new.self.cells ≡ c.self.inside.cells.cells ++ cells_of c.args.task.now.inputs c.args.task.now.state ∷ [] = search rules in
    tasks_push c.self.inside.marks.items c.add.new.self.items c.self.inside.cells.cells c.push.new.self.cells c.mark_of.result c.args.task.now
    c.self.invariant.0 c.mark_of.ensures c.push.ensures.eight c.add.ensures.items cells
    ∙ ap (λ (v : RoomyTasks). v.tasks ++ c.args.task.now ∷ []) c.self.view_is
