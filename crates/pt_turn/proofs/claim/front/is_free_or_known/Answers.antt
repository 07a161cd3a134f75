use Rattle.std.proofs.Common.{◌≡◌, Option, IfSome, refl, subst, ⊎_elim}
use Rattle.pt_semantics.specs.Safe.{IsSafe}
use Rattle.pt_queue.specs.Events.{waiting_in}
use Rattle.pt_turn.specs.Fields.State.{busy_in}
use Rattle.pt_turn.specs.declared.claim.front.Several.{Several}
use Rattle.pt_turn.specs.Claims.Fronts.{AreBothSafe, IsSafeSomewhen}
use Rattle.pt_turn.proofs.Claims.SafeTags.{only_tag}
use Rattle.pt_turn.proofs.claim.front.is_free_or_known.Goals as goal

pub returns-then-is_one_of : goal.returns-then-is_one_of
returns-then-is_one_of c =
    let g = c.args.plan.now.graph in
    let waits = waiting_in c.args.fields.now.queue.events in
    let busy = busy_in c.args.fields.now.open_claims.items in
    let r = c.args.reading in
    let u = c.args.unit in
    let s = c.in-Some.several in
    let known : AreBothSafe g waits busy r s =
    subst (λ (o : Option Several). IfSome o (AreBothSafe g waits busy r)) c.in-Some.is c.requires.known in
    let here : IsSafeSomewhen g waits busy r u = ⊎_elim
    (λ (e : s.first ≡ u). subst (IsSafeSomewhen g waits busy r) e known.0)
    (λ (e : s.second ≡ u). subst (IsSafeSomewhen g waits busy r) e known.1)
    (c.is_one_of.ensures c.if-is_one_of.true) in (
      λ h. subst (IsSafe g waits busy r u) (only_tag g waits busy r u here.0 c.args.tag here.1 c.requires.tag) here.1,
      λ safe. refl,
    )
