use Rattle.std.proofs.Common.{◌≡◌, ◌<◌, ◌∷◌, [], Some, length, ap, sym, subst, ◌∙◌, arith}
use Rattle.std.specs.Prelude.{option_map, slice_get}
use Rattle.std.proofs.lemmas.Option.{get_or_from_slice_get}
use Rattle.pt_types.specs.declared.firing.Done.{Done}
use Rattle.pt_history.specs.Tasks.{mark_of}
use Rattle.pt_history.specs.Works.{SourcesAreWithin, RoomyWork, task_at}
use Rattle.pt_history.proofs.DoneLists.{length-dones, task_get, within_at}
use Rattle.pt_history.proofs.work.Work.done_mark.Goals as goal

pub get-requires : goal.get-requires
get-requires c =
    let lists : length c.args.self.now.dones ≡ length c.self.inside.sources.items = ap (λ (v : RoomyWork). length v.dones) (sym c.self.view_is) ∙ length-dones c.self.inside.claims.tasks c.self.inside.others.items c.self.inside.sources.items c.self.inside.fired.cells c.self.invariant.same in
    omega (arith, lists, c.requires)

pub mark_at-requires : goal.mark_at-requires
mark_at-requires c =
    let lists : length c.args.self.now.dones ≡ length c.self.inside.sources.items = ap (λ (v : RoomyWork). length v.dones) (sym c.self.view_is) ∙ length-dones c.self.inside.claims.tasks c.self.inside.others.items c.self.inside.sources.items c.self.inside.fired.cells c.self.invariant.same in
    let inside : c.args.number < length c.self.inside.sources.items = omega (arith, lists, c.requires) in
    subst (λ os. SourcesAreWithin (length c.self.inside.claims.tasks) (length os) (c.get.result ∷ [])) (sym c.as_slice.ensures.value) (within_at (length c.self.inside.claims.tasks) (length c.self.inside.others.items) c.self.inside.sources.items c.args.number c.get.result inside (sym (get_or_from_slice_get c.self.inside.sources.items c.args.number c.get.result c.get.result c.get.ensures)) c.self.invariant.within)

pub returns : goal.returns
returns c =
    let lists : length c.args.self.now.dones ≡ length c.self.inside.sources.items = ap (λ (v : RoomyWork). length v.dones) (sym c.self.view_is) ∙ length-dones c.self.inside.claims.tasks c.self.inside.others.items c.self.inside.sources.items c.self.inside.fired.cells c.self.invariant.same in
    let inside : c.args.number < length c.self.inside.sources.items = omega (arith, lists, c.requires) in
    ap (λ (v : RoomyWork). option_map (λ (done : Done). mark_of done.task) (slice_get v.dones c.args.number)) (sym c.self.view_is)
    ∙ task_get c.self.inside.claims.tasks c.self.inside.others.items c.self.inside.sources.items c.self.inside.fired.cells c.args.number c.get.result inside c.self.invariant.same (sym (get_or_from_slice_get c.self.inside.sources.items c.args.number c.get.result c.get.result c.get.ensures))
    ∙ sym (ap Some (c.mark_at.ensures ∙ ap (λ os. mark_of (task_at c.self.inside.claims.tasks os c.get.result)) c.as_slice.ensures.value))
