use Rattle.pt_causality.specs.Delays.{least_of}
use Rattle.pt_slacks.specs.Trails.{IsWalkBack}
use Rattle.pt_slacks.proofs.ring.ring_of.Given as goal

abbrev pub invariant-loop-step : goal.invariant-loop-step
invariant-loop-step l = IsWalkBack l.hops (least_of l.least) l.rows l.step l.trail.items l.at
