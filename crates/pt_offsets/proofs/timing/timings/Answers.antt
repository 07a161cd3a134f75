use Rattle.std.proofs.Common.{◌≡◌, length, arith, ap, sym, subst, ◌∙◌}
use Rattle.std.proofs.lemmas.List.{length_push}
use Rattle.pt_offsets.specs.Timings.{IsTiming, timing_at}
use Rattle.pt_offsets.proofs.Times.{are_timings, timing_more}
use Rattle.pt_offsets.proofs.timing.timings.Goals as goal

pub loop-number-preserved : goal.loop-number-preserved
loop-number-preserved c =
    let g = c.args.graph.now in
    let before = c.loop-number.timings.items in
    let len = ap length c.in_ok-push.ensures.items ∙ length_push before c.in_ok-timing.timing in
    record {
      len = omega (arith, len);
      each = λ a h.
          subst (λ ts. IsTiming g a (timing_at ts a)) (sym c.in_ok-push.ensures.items)
          (timing_more g before c.in_ok-timing.timing c.loop-number.number c.loop-number.invariant.len c.loop-number.invariant.each c.in_ok-timing.ensures a h);
    }

pub returns : goal.returns
returns c =
    let same : length c.as_slice-actor-items.result.now ≡ length c.args.graph.now.actors = ap length c.as_slice-actor-items.ensures in
    are_timings c.args.graph.now c.loop-number.timings.items c.requires.lawful (omega arith) (λ a less. c.loop-number.invariant.each a (omega arith))
