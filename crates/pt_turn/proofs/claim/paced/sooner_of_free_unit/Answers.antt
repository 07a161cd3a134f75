use Rattle.std.proofs.Common.{◌≡◌, ap, sym, subst, ◌∙◌}
use Rattle.pt_semantics.specs.Offsets.{HasOffset}
use Rattle.pt_offsets.specs.Timings.{offset_of}
use Rattle.pt_queue.specs.Events.{waiting_in}
use Rattle.pt_turn.specs.Fields.State.{busy_in}
use Rattle.pt_turn.proofs.Claims.Units.{paced_one}
use Rattle.pt_turn.proofs.claim.paced.sooner_of_free_unit.Goals as goal

pub returns : goal.returns
returns c =
    let g = c.args.plan.now.graph in
    let busy = busy_in c.args.fields.now.open_claims.items in
    let u = c.args.waiting.unit in
    let offset : offset_of c.args.plan.now.offsets u ≡ c.of_unit.result = ap (λ o. offset_of o u) (sym c.offsets.ensures.value) ∙ sym c.of_unit.ensures in
    let has : HasOffset g u c.of_unit.result = subst (HasOffset g u) offset (c.offsets.ensures.admitted.offsets.units u) in
    paced_one g (waiting_in c.args.fields.now.queue.events) busy u c.args.waiting.tag c.of_unit.result c.args.so_far c.sooner_paced.result c.requires.free c.requires.tag has c.sooner_paced.ensures
