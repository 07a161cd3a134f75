use Rattle.std.proofs.Common.{◌≡◌, Some, length, slice_get, refl, subst}
use Rattle.std.proofs.lemmas.Option.{slice_get_read}
use Rattle.pt_confluence.proofs.Sorting.{lawful_at}
use Rattle.pt_confluence.proofs.joining.fire.Goals as goal

pub fire_kind-requires : goal.fire_kind-requires
fire_kind-requires c =
    let found = c.in-Some.ensures.lookup in
    let there : slice_get c.as_slice.result.now c.args.task.now.actor ≡ Some c.in-Some.actor.now =
    slice_get_read c.as_slice.result.now (length c.as_slice.result.now) c.args.task.now.actor c.in-Some.actor.now refl found.3.0 found.1 in
    lawful_at (length c.args.graph.now.platforms) c.args.graph.now.actors c.args.task.now.actor c.in-Some.actor.now c.requires.lawful.actors
    (subst (λ xs. slice_get xs c.args.task.now.actor ≡ Some c.in-Some.actor.now) c.as_slice.ensures there)
