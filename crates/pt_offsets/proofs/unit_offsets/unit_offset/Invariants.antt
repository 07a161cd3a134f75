use Rattle.std.proofs.Common.{get_or}
use Rattle.pt_causality.specs.Delays.{least_of}
use Rattle.pt_offsets.specs.Bounded.{offset_from}
use Rattle.pt_offsets.specs.Greatest.{HasGreatest}
use Rattle.pt_offsets.proofs.unit_offsets.unit_offset.Given as goal

abbrev pub invariant-loop-actor : goal.invariant-loop-actor
invariant-loop-actor l = HasGreatest l.actor-index (λ i. offset_from l.bounds (least_of l.least) l.unit (get_or l.sources i 0)) l.offset
