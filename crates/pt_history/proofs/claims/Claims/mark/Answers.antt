use Rattle.std.proofs.Common.{◌≡◌, length, ap, sym, ◌∙◌, arith}
use Rattle.std.specs.Prelude.{option_map, slice_get}
use Rattle.std.proofs.lemmas.Option.{get_or_from_slice_get}
use Rattle.pt_history.specs.Tasks.{RoomyTasks, mark_of}
use Rattle.pt_history.proofs.TaskLists.{length-tasks, marks_get}
use Rattle.pt_history.proofs.claims.Claims.mark.Goals as goal

pub at-requires : goal.at-requires
at-requires c =
    let lists : length c.args.self.now.tasks ≡ length c.self.inside.marks.items = ap (λ (v : RoomyTasks). length v.tasks) (sym c.self.view_is) ∙ length-tasks c.self.inside.marks.items c.self.inside.cells.cells c.self.invariant.0 in
    omega (arith, lists, c.requires)

pub returns : goal.returns
returns c =
    let lists : length c.args.self.now.tasks ≡ length c.self.inside.marks.items = ap (λ (v : RoomyTasks). length v.tasks) (sym c.self.view_is) ∙ length-tasks c.self.inside.marks.items c.self.inside.cells.cells c.self.invariant.0 in
    ap (λ (v : RoomyTasks). option_map mark_of (slice_get v.tasks c.args.number)) (sym c.self.view_is)
    ∙ marks_get c.self.inside.marks.items c.self.inside.cells.cells c.args.number c.at.result c.self.invariant.0 (omega (arith, lists, c.requires)) (sym (get_or_from_slice_get c.self.inside.marks.items c.args.number c.at.result c.at.result c.at.ensures))
