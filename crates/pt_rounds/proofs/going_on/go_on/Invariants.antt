use Rattle.std.proofs.Common.{◌≡◌, ◌-◌, ℕ, false, true, List}
use Rattle.std.specs.List.{list_all}
use Rattle.pt_semantics.specs.Turn.{is_empty}
use Rattle.pt_types.specs.declared.rows.Row.{Row}
use Rattle.pt_offsets.specs.Plans.{Parts}
use Rattle.pt_engine.specs.Asked.{result_lists}
use Rattle.pt_rounds.specs.Passing.{IsBeforeRound}
use Rattle.pt_rounds.proofs.going_on.go_on.Given as goal

abbrev pub invariant-loop-round : goal.invariant-loop-round
invariant-loop-round g l = record {
  run : (plan : Parts) (rows : ℕ → List Row) → IsBeforeRound plan rows 0 l.fn.begins l.fn.platforms l.fn.pipes (result_lists l.fn.results) →
      IsBeforeRound plan rows l._round l.reading l.platforms l.pipes (result_lists l.results);
  none : l.under_way ≡ false → list_all is_empty l.pipes ≡ true;
}

abbrev pub decreases-loop-round : goal.decreases-loop-round
decreases-loop-round g l = 1000000000000000000000 - l._round
