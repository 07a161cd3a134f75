use Rattle.std.proofs.Common.{◌≡◌, ◌<◌, Some, length, ap, sym, ◌∙◌, arith}
use Rattle.std.specs.Prelude.{slice_get}
use Rattle.std.proofs.lemmas.Option.{get_or_from_slice_get}
use Rattle.pt_history.specs.Tasks.{RoomyTasks}
use Rattle.pt_history.proofs.TaskLists.{length-tasks, tasks_get}
use Rattle.pt_history.proofs.claims.Claims.get.Goals as goal

pub at-requires : goal.at-requires
at-requires c =
    let lists : length c.args.self.now.tasks ≡ length c.self.inside.marks.items = ap (λ (v : RoomyTasks). length v.tasks) (sym c.self.view_is) ∙ length-tasks c.self.inside.marks.items c.self.inside.cells.cells c.self.invariant.0 in
    omega (arith, lists, c.requires)

pub get-requires : goal.get-requires
get-requires c =
    let lists : length c.args.self.now.tasks ≡ length c.self.inside.marks.items = ap (λ (v : RoomyTasks). length v.tasks) (sym c.self.view_is) ∙ length-tasks c.self.inside.marks.items c.self.inside.cells.cells c.self.invariant.0 in
    omega (arith, lists, c.requires, c.self.invariant.0)

pub returns : goal.returns
returns c =
    let lists : length c.args.self.now.tasks ≡ length c.self.inside.marks.items = ap (λ (v : RoomyTasks). length v.tasks) (sym c.self.view_is) ∙ length-tasks c.self.inside.marks.items c.self.inside.cells.cells c.self.invariant.0 in
    let inside : c.args.number < length c.self.inside.marks.items = omega (arith, lists, c.requires) in
    ap (λ (v : RoomyTasks). slice_get v.tasks c.args.number) (sym c.self.view_is)
    ∙ tasks_get c.self.inside.marks.items c.self.inside.cells.cells c.args.number c.at.result c.get.result inside (sym (get_or_from_slice_get c.self.inside.marks.items c.args.number c.at.result c.at.result c.at.ensures)) c.get.ensures
    ∙ ap Some (sym c.task_of.ensures)
