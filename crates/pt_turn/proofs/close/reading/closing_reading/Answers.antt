use Rattle.std.proofs.Common.{◌≡◌, ◌+◌, length, ap, sym, subst, ◌∙◌, arith, max}
use Rattle.pt_types.specs.declared.graph.Graph.{Graph}
use Rattle.pt_turn.proofs.Claims.Bounds.{Closes, closes_more, closes_same, is_closing, platform_read}
use Rattle.pt_turn.proofs.close.reading.closing_reading.Goals.{then-actor-platform, else-actor-platform}
use Rattle.pt_turn.proofs.close.reading.closing_reading.Goals as goal

pub loop-number-preserved : goal.loop-number-preserved
loop-number-preserved c =
    let g = c.args.plan.now.graph in
    let same = c.as_slice-actor-items.ensures ∙ ap (λ (z : Graph). z.actors) c.graph.ensures.value in
    let home = platform_read g c.as_slice-actor-items.result.now c.loop-number.number c.actor-item.result same c.loop-number-test.true c.actor-item.is in
    elim c.if-actor-platform.branch [
      | then-actor-platform w ↦ closes_more g c.args.platform c.loop-number.number c.loop-number.closing c.if-actor-platform.closing c.loop-number.invariant (sym home ∙ w.if-actor-platform.true)
          (w.closing-is ∙ w.max-closing.ensures ∙ ap (max c.loop-number.closing) w.closes_after.ensures)
      | else-actor-platform w ↦ subst (Closes g c.args.platform (c.loop-number.number + 1)) (sym w.closing-is)
          (closes_same g c.args.platform c.loop-number.number c.loop-number.closing c.loop-number.invariant (λ e. w.if-actor-platform.false (home ∙ e)))
    ]

pub returns : goal.returns
returns c =
    let len : length c.as_slice-actor-items.result.now ≡ length c.args.plan.now.graph.actors = ap length (c.as_slice-actor-items.ensures ∙ ap (λ (z : Graph). z.actors) c.graph.ensures.value) in
    is_closing c.args.plan.now.graph c.args.platform c.loop-number.number c.loop-number.closing c.graph.ensures.admitted.lawful (omega (arith, len, c.loop-number-test.false)) c.loop-number.invariant
