use Rattle.std.proofs.Common.{◌≡◌, ℕ, List}
use Rattle.pt_types.specs.declared.rows.Row.{Row}
use Rattle.pt_offsets.specs.Plans.{Parts}
use Rattle.pt_replay.specs.Visits.Moments.{ArriveFrom}
use Rattle.pt_engine.specs.Asked.{result_lists}
use Rattle.pt_replay.specs.Passing.{HavePassed, IsBeforeRound}
use Rattle.pt_replay.proofs.passing.pass.Given as goal

abbrev pub invariant-loop-i : goal.invariant-loop-i
invariant-loop-i g l = record {
  passed : (plan : Parts) (rows : ℕ → List Row) (count : ℕ) (s : IsBeforeRound plan rows l.air count l.now l.fn.platforms l.fn.airways (result_lists l.fn.results)) →
      HavePassed plan rows l.air l.now s.state l.i l.platforms l.airways (result_lists l.results) l.quiet;
  arrivals : (plan : Parts) (rows : ℕ → List Row) (count : ℕ) → IsBeforeRound plan rows l.air count l.now l.fn.platforms l.fn.airways (result_lists l.fn.results) →
      ArriveFrom plan.graph l.fn.arrivals l.fn.airways → ArriveFrom plan.graph l.arrivals l.airways;
  pipes : l.pipes ≡ l.fn.pipes;
}
