use Rattle.std.proofs.Common.{◌≡◌, ◌<◌, Some, length, ap, sym, ◌∙◌, arith, rules}
use Rattle.std.specs.Prelude.{slice_get}
use Rattle.std.proofs.lemmas.Option.{get_or_from_slice_get}
use Rattle.pt_history.specs.Cells.{cells_of}
use Rattle.pt_history.specs.Tasks.{RoomyTasks, mark_of}
use Rattle.pt_history.proofs.TaskLists.{length-tasks, task_back, tasks_get}
use Rattle.pt_history.proofs.claims.Claims.is.Goals as goal

pub at-requires : goal.at-requires
at-requires c =
    let lists : length c.args.self.now.tasks ≡ length c.self.inside.marks.items = ap (λ (v : RoomyTasks). length v.tasks) (sym c.self.view_is) ∙ length-tasks c.self.inside.marks.items c.self.inside.cells.cells c.self.invariant.0 in
    omega (arith, lists, c.requires)

pub is-requires : goal.is-requires
is-requires c =
    let lists : length c.args.self.now.tasks ≡ length c.self.inside.marks.items = ap (λ (v : RoomyTasks). length v.tasks) (sym c.self.view_is) ∙ length-tasks c.self.inside.marks.items c.self.inside.cells.cells c.self.invariant.0 in
    omega (arith, lists, c.requires, c.self.invariant.0)

pub returns-then-same_mark-clause-same : goal.returns-then-same_mark-clause-same
returns-then-same_mark-clause-same c = λ same.
    let lists : length c.args.self.now.tasks ≡ length c.self.inside.marks.items = ap (λ (v : RoomyTasks). length v.tasks) (sym c.self.view_is) ∙ length-tasks c.self.inside.marks.items c.self.inside.cells.cells c.self.invariant.0 in
    let inside : c.args.number < length c.self.inside.marks.items = omega (arith, lists, c.requires) in
    let mark : c.at.result ≡ mark_of c.args.task.now = c.same_mark.ensures c.if-same_mark.true ∙ c.mark_of.ensures in
    let cells : slice_get c.self.inside.cells.cells c.args.number ≡ Some (cells_of c.args.task.now.inputs c.args.task.now.state) = search rules in
    ap (λ (v : RoomyTasks). slice_get v.tasks c.args.number) (sym c.self.view_is)
    ∙ tasks_get c.self.inside.marks.items c.self.inside.cells.cells c.args.number c.at.result (cells_of c.args.task.now.inputs c.args.task.now.state) inside (sym (get_or_from_slice_get c.self.inside.marks.items c.args.number c.at.result c.at.result c.at.ensures)) cells
    ∙ ap Some (task_back c.args.task.now c.at.result mark c.is.ensures.eight)
