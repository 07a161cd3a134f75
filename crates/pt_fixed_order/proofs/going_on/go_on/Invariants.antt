use Rattle.std.proofs.Common.{ℕ, List}
use Rattle.pt_io.specs.Clocks.{ClockView, viewed}
use Rattle.pt_types.specs.declared.rows.Row.{Row}
use Rattle.pt_offsets.specs.Plans.{Parts}
use Rattle.pt_engine.specs.Asked.{result_lists}
use Rattle.pt_fixed_order.specs.Between.{BeforeVisit}
use Rattle.pt_fixed_order.proofs.going_on.go_on.Given as goal

abbrev pub invariant-loop : goal.invariant-loop
invariant-loop g l =
    (plan : Parts) (rows : ℕ → List Row) (began : List ClockView) → BeforeVisit plan rows l.fn.most 0 began (viewed g.C.Clock.readings g.C.Clock.ahead l.fn.clocks) l.fn.platforms l.fn.pipes (result_lists l.fn.results) →
    BeforeVisit plan rows l.fn.most l.number began (viewed g.C.Clock.readings g.C.Clock.ahead l.clocks) l.platforms l.pipes (result_lists l.results)
