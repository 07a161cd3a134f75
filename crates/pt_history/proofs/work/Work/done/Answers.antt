use Rattle.std.proofs.Common.{◌≡◌, ◌<◌, ◌∷◌, [], Some, length, ap, sym, subst, ◌∙◌, arith}
use Rattle.std.specs.Prelude.{slice_get}
use Rattle.std.proofs.lemmas.Option.{get_or_from_slice_get}
use Rattle.pt_history.specs.Works.{SourcesAreWithin, RoomyWork, done_of, task_at}
use Rattle.pt_history.proofs.DoneLists.{dones_get, length-dones, within_at}
use Rattle.pt_history.proofs.work.Work.done.Goals as goal

pub get-requires : goal.get-requires
get-requires c =
    let lists : length c.args.self.now.dones ≡ length c.self.inside.sources.items = ap (λ (v : RoomyWork). length v.dones) (sym c.self.view_is) ∙ length-dones c.self.inside.claims.tasks c.self.inside.others.items c.self.inside.sources.items c.self.inside.fired.cells c.self.invariant.same in
    omega (arith, lists, c.requires)

pub task_at-task-requires : goal.task_at-task-requires
task_at-task-requires c =
    let lists : length c.args.self.now.dones ≡ length c.self.inside.sources.items = ap (λ (v : RoomyWork). length v.dones) (sym c.self.view_is) ∙ length-dones c.self.inside.claims.tasks c.self.inside.others.items c.self.inside.sources.items c.self.inside.fired.cells c.self.invariant.same in
    let inside : c.args.number < length c.self.inside.sources.items = omega (arith, lists, c.requires) in
    subst (λ os. SourcesAreWithin (length c.self.inside.claims.tasks) (length os) (c.get.result ∷ [])) (sym c.as_slice.ensures.value) (within_at (length c.self.inside.claims.tasks) (length c.self.inside.others.items) c.self.inside.sources.items c.args.number c.get.result inside (sym (get_or_from_slice_get c.self.inside.sources.items c.args.number c.get.result c.get.result c.get.ensures)) c.self.invariant.within)

pub get-requires-2 : goal.get-requires-2
get-requires-2 c =
    let lists : length c.args.self.now.dones ≡ length c.self.inside.sources.items = ap (λ (v : RoomyWork). length v.dones) (sym c.self.view_is) ∙ length-dones c.self.inside.claims.tasks c.self.inside.others.items c.self.inside.sources.items c.self.inside.fired.cells c.self.invariant.same in
    omega (arith, lists, c.requires, c.self.invariant.same)

pub returns : goal.returns
returns c =
    let lists : length c.args.self.now.dones ≡ length c.self.inside.sources.items = ap (λ (v : RoomyWork). length v.dones) (sym c.self.view_is) ∙ length-dones c.self.inside.claims.tasks c.self.inside.others.items c.self.inside.sources.items c.self.inside.fired.cells c.self.invariant.same in
    let inside : c.args.number < length c.self.inside.sources.items = omega (arith, lists, c.requires) in
    ap (λ (v : RoomyWork). slice_get v.dones c.args.number) (sym c.self.view_is)
    ∙ dones_get c.self.inside.claims.tasks c.self.inside.others.items c.self.inside.sources.items c.self.inside.fired.cells c.args.number c.get.result c.get-2.result inside (sym (get_or_from_slice_get c.self.inside.sources.items c.args.number c.get.result c.get.result c.get.ensures)) c.get-2.ensures
    ∙ ap (λ t. Some (done_of t c.get-2.result)) (sym (c.task_at-task.ensures ∙ ap (λ os. task_at c.self.inside.claims.tasks os c.get.result) c.as_slice.ensures.value))
    ∙ ap Some (sym c.done_of.ensures)
