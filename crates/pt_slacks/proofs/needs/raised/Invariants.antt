use Rattle.std.proofs.Common.{slice_index}
use Rattle.pt_causality.specs.Delays.{least_of}
use Rattle.pt_slacks.specs.Needs.{IsMost, by_hop}
use Rattle.pt_slacks.proofs.needs.raised.Given as goal

abbrev pub invariant-loop-number : goal.invariant-loop-number
invariant-loop-number l = IsMost l.start l.number (by_hop l.hops (least_of l.least) (slice_index l.row) l.actor) l.most
