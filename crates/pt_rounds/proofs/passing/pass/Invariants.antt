use Rattle.std.proofs.Common.{◌≡◌, ℕ, false, true, List}
use Rattle.std.specs.List.{list_all}
use Rattle.pt_semantics.specs.Turn.{is_empty}
use Rattle.pt_types.specs.declared.rows.Row.{Row}
use Rattle.pt_offsets.specs.Plans.{Parts}
use Rattle.pt_engine.specs.Asked.{HaveNoFault, result_lists}
use Rattle.pt_rounds.specs.Passing.{HavePassed, IsBeforeRound}
use Rattle.pt_rounds.proofs.passing.pass.Given as goal

abbrev pub invariant-loop-i : goal.invariant-loop-i
invariant-loop-i g l = record {
  passed : (plan : Parts) (rows : ℕ → List Row) (count : ℕ) (s : IsBeforeRound plan rows count l.reading l.fn.platforms l.fn.pipes (result_lists l.fn.results)) →
      HavePassed plan rows l.reading s.together l.i l.platforms l.pipes (result_lists l.results) l.quiet;
  none : l.under_way ≡ false → list_all is_empty l.pipes ≡ true;
  faults : l.faulty ≡ false → HaveNoFault l.platforms;
}
