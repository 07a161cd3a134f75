use Rattle.std.proofs.Common.{◌≡◌, length, arith, ap}
use Rattle.pt_offsets.proofs.Small.{are_bounds}
use Rattle.pt_offsets.proofs.bounds.bounds_of.Goals as goal

pub returns : goal.returns
returns c =
    let same : length c.as_slice-actor-items.result.now ≡ length c.args.graph.now.actors = ap length c.as_slice-actor-items.ensures in
    are_bounds c.args.graph.now c.loop-number.bounds.items c.requires (omega arith) (λ a less. c.loop-number.invariant.each a (omega arith))
