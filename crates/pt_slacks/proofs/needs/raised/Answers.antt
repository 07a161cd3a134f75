use Rattle.std.proofs.Common.{◌+◌, slice_index, sym, subst}
use Rattle.pt_causality.specs.Delays.{least_of}
use Rattle.pt_slacks.specs.Needs.{IsMost, by_hop}
use Rattle.pt_slacks.proofs.Most.{most_more}
use Rattle.pt_slacks.proofs.needs.raised.Goals as goal

pub loop-number-preserved : goal.loop-number-preserved
loop-number-preserved c =
    let n = c.loop-number.number in
    let by = by_hop c.args.hops.now (least_of c.args.least.now) (slice_index c.args.row.now) c.args.actor in
    subst (IsMost c.args.start (n + 1) by) (sym c.max-most.ensures) (most_more c.args.start n by c.loop-number.most c.by_source.result c.loop-number.invariant c.by_source.ensures)
