use Rattle.std.proofs.Common.{◌≡◌, ◌<◌, [], ◌∷◌, ◌++◌, arith, length, slice_index_or, slice_set, subst}
use Rattle.pt_causality.specs.Wiring.{by_actor}
use Rattle.pt_causality.proofs.Sorting.{with_edge}
use Rattle.pt_causality.proofs.lists.EdgeLists.add.Goals as goal

pub returns-in_ok-push : goal.returns-in_ok-push
returns-in_ok-push c =
    let within : c.args.actor < length c.self.inside.lists.items = omega (arith, c.if-actor-len.true, c.len.ensures, c.self.inside.lists.ok.0) in
    subst (λ ls. by_actor (slice_set c.self.inside.lists.items c.args.actor c.push.new.self) ≡ slice_set ls c.args.actor (slice_index_or ls c.args.actor [] ++ c.args.edge ∷ [])) c.self.view_is
    (with_edge c.self.inside.lists.items c.args.actor c.args.edge c.index_mut.result.now c.push.new.self within c.index_mut.ensures.value c.in_ok-push.ensures.items)
