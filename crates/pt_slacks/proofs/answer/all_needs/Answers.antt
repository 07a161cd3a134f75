use Rattle.std.proofs.Common.{length, slice_index, sym, ap, subst, ◌∙◌, arith}
use Rattle.std.proofs.lemmas.List.{length_push}
use Rattle.pt_causality.specs.Delays.{least_of}
use Rattle.pt_types.specs.Lookups.{kind_of}
use Rattle.pt_offsets.proofs.Small.{kind_read}
use Rattle.pt_slacks.specs.Needs.{HasSlack, IsNeed}
use Rattle.pt_slacks.proofs.Pushes.{each_more}
use Rattle.pt_slacks.proofs.answer.all_needs.Goals as goal

pub loop-number-preserved : goal.loop-number-preserved
loop-number-preserved c =
    let g = c.args.graph.now in
    let least = least_of c.args.least.now in
    let row = slice_index c.args.row.now in
    let before = c.loop-number.needs.items in
    let n = c.loop-number.number in
    let len = ap length c.in_ok-push.ensures.items ∙ length_push before c.need.result in
    let kind = kind_read g c.as_slice-actor-items.result.now n c.actor-item.result c.as_slice-actor-items.ensures c.loop-number-test.true c.actor-item.is in
    let is = subst (λ k. HasSlack k → IsNeed g c.args.hops.now least row n c.need.result) kind c.need.ensures in
    record {
      len = omega (arith, len, c.loop-number.invariant.len);
      each = λ v h.
          subst (λ xs. HasSlack (kind_of g v) → IsNeed g c.args.hops.now least row v (slice_index xs v)) (sym c.in_ok-push.ensures.items)
          (each_more (λ w x. HasSlack (kind_of g w) → IsNeed g c.args.hops.now least row w x) before c.need.result n c.loop-number.invariant.len c.loop-number.invariant.each is v h);
    }
