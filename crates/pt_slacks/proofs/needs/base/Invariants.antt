use Rattle.pt_causality.specs.Delays.{least_of}
use Rattle.pt_slacks.specs.Needs.{IsMost, by_sensor}
use Rattle.pt_slacks.proofs.needs.base.Given as goal

abbrev pub invariant-loop-number : goal.invariant-loop-number
invariant-loop-number l = IsMost 0 l.number (by_sensor l.graph (least_of l.least) l.actor) l.most
