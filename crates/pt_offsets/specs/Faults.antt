-- The cause of each fault.
use Rattle.std.specs.Prelude.{◌≡◌, ℕ}
use Rattle.pt_types.specs.declared.graph.Graph.{Graph}
use Rattle.pt_offsets.specs.declared.fault.OffsetFault.{OffsetFault}
use Rattle.pt_offsets.specs.declared.fault.OffsetFault.TheVariants.{Infeasible, Memory}
use Rattle.pt_offsets.specs.declared.fault.PlanFault.{PlanFault}
use Rattle.pt_offsets.specs.declared.fault.PlanFault.TheVariants as plan
use Rattle.pt_causality.specs.Ranked.{CauseOfCycle}
use Rattle.pt_semantics.specs.Cycles.{NoFreeCycle}
use Rattle.pt_offsets.specs.Margins.{IsFirstInfeasible, IsInfeasible}

-- the sender in the fault is the first one that can't send in time; of memory the definition says nothing
abbrev pub CauseOfOffset : OffsetFault → Graph → Type 0
CauseOfOffset Memory g = Unit {0}
CauseOfOffset (Infeasible send offset slack) g = IsFirstInfeasible g send offset slack

-- the fault names this actor, a sender that can't send in time
abbrev pub Names : OffsetFault → Graph → ℕ → Type 0
Names Memory g a = ⊥
Names (Infeasible send offset slack) g a = (send ≡ a) × IsInfeasible g a offset slack

-- a graph has no plan if it has a cycle that takes no time, or else a sender that can't send in time; of memory the
-- definition says nothing
abbrev pub CauseOfPlan : PlanFault → Graph → Type 0
CauseOfPlan plan.Memory g = Unit {0}
CauseOfPlan (plan.Cycle fault) g = CauseOfCycle fault g
CauseOfPlan (plan.Offset fault) g = NoFreeCycle g × CauseOfOffset fault g
