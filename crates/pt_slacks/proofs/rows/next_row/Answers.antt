use Rattle.std.proofs.Common.{ℕ, length, slice_index, sym, ap, subst, ◌∙◌, arith}
use Rattle.std.proofs.lemmas.List.{length_push}
use Rattle.pt_causality.specs.Delays.{least_of}
use Rattle.pt_slacks.specs.Hops.{hop_at}
use Rattle.pt_slacks.specs.Needs.{IsRaised}
use Rattle.pt_slacks.proofs.Pushes.{each_more}
use Rattle.pt_slacks.proofs.rows.next_row.Goals as goal

pub loop-number-preserved : goal.loop-number-preserved
loop-number-preserved c =
    let hops = c.args.hops.now in
    let row = c.args.row.now in
    let before = c.loop-number.next.items in
    let raised : ℕ → ℕ → Type 0 = λ v x. IsRaised hops (least_of c.args.least.now) (slice_index row) (hop_at hops v).from (slice_index row v) x in
    let len = ap length c.in_ok-push.ensures.items ∙ length_push before c.raised.result in
    record {
      len = omega (arith, len, c.loop-number.invariant.len);
      each = λ v h.
          subst (λ xs. raised v (slice_index xs v)) (sym c.in_ok-push.ensures.items)
          (each_more raised before c.raised.result c.loop-number.number c.loop-number.invariant.len c.loop-number.invariant.each c.raised.ensures v h);
    }
