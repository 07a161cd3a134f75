use Rattle.std.proofs.Common.{length, slice_index, sym, ap, subst, ◌∙◌, arith}
use Rattle.std.proofs.lemmas.List.{length_push}
use Rattle.pt_causality.specs.Delays.{least_of}
use Rattle.pt_slacks.specs.Hops.{hop_at}
use Rattle.pt_slacks.specs.Needs.{IsBase}
use Rattle.pt_slacks.proofs.Pushes.{each_more}
use Rattle.pt_slacks.proofs.rows.first_row.Goals as goal

pub loop-hop-preserved : goal.loop-hop-preserved
loop-hop-preserved c =
    let g = c.args.graph.now in
    let before = c.loop-hop.row.items in
    let n = c.loop-hop.hop-index in
    let len = ap length c.in_ok-push.ensures.items ∙ length_push before c.base.result in
    record {
      len = omega (arith, len, c.loop-hop.invariant.len);
      each = λ v h.
          subst (λ xs. IsBase g (least_of c.args.least.now) (hop_at c.args.hops.now v).from (slice_index xs v)) (sym c.in_ok-push.ensures.items)
          (each_more (λ w x. IsBase g (least_of c.args.least.now) (hop_at c.args.hops.now w).from x) before c.base.result n c.loop-hop.invariant.len c.loop-hop.invariant.each c.base.ensures v h);
    }
