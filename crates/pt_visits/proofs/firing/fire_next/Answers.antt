use Rattle.std.proofs.Common.{◌≡◌, ◌∙◌, refl, sym, ap, length}
use Rattle.std.specs.Prelude.{List, Some, slice_get}
use Rattle.std.proofs.lemmas.Option.{slice_get_read}
use Rattle.pt_types.specs.declared.graph.Actor.{Actor}
use Rattle.pt_visits.proofs.Lawful.{lawful_kind}
use Rattle.pt_visits.proofs.firing.fire_next.Goals as goal

pub fire_onto-requires : goal.fire_onto-requires
fire_onto-requires g c =
    let h = c.in-Some.ensures.lookup in
    let at : slice_get c.as_slice.result.now c.args.task.now.actor ≡ Some c.in-Some.actor.now = slice_get_read c.as_slice.result.now (length c.as_slice.result.now) c.args.task.now.actor c.in-Some.actor.now refl h.3.0 h.1 in
    lawful_kind (length c.args.graph.now.platforms) c.args.graph.now.actors c.args.task.now.actor c.in-Some.actor.now c.requires.lawful.actors (ap (λ (xs : List Actor). slice_get xs c.args.task.now.actor) (sym c.as_slice.ensures) ∙ at)
