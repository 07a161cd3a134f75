use Rattle.std.proofs.Common.{◌≡◌, ◌-◌, ℕ, List}
use Rattle.pt_types.specs.declared.rows.Row.{Row}
use Rattle.pt_offsets.specs.Plans.{Parts}
use Rattle.pt_replay.specs.Visits.Moments.{ArriveFrom}
use Rattle.pt_engine.specs.Asked.{result_lists}
use Rattle.pt_replay.specs.Passing.{IsBeforeRound}
use Rattle.pt_replay.proofs.going_on.go_on.Given as goal

abbrev pub invariant-loop-round : goal.invariant-loop-round
invariant-loop-round g l = record {
  stands : (plan : Parts) (rows : ℕ → List Row) → IsBeforeRound plan rows l.air 0 l.fn.begins l.fn.platforms l.fn.airways (result_lists l.fn.results) →
      IsBeforeRound plan rows l.air l._round l.now l.platforms l.airways (result_lists l.results);
  arrivals : (plan : Parts) (rows : ℕ → List Row) → IsBeforeRound plan rows l.air 0 l.fn.begins l.fn.platforms l.fn.airways (result_lists l.fn.results) →
      ArriveFrom plan.graph l.fn.arrivals l.fn.airways → ArriveFrom plan.graph l.arrivals l.airways;
  pipes : l.pipes ≡ l.fn.pipes;
}

abbrev pub decreases-loop-round : goal.decreases-loop-round
decreases-loop-round g l = 1000000000000000000000 - l._round
