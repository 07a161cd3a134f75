use Rattle.std.proofs.Common.{◌∙◌, length, arith, sym, subst}
use Rattle.std.proofs.lemmas.Bool.{false≢true}
use Rattle.pt_paced_laws.proofs.Ending.{rounds_end}
use Rattle.pt_semantics.proofs.LawfulEdges.{wired}
use Rattle.pt_causality.specs.Ranked.{level_of}
use Rattle.pt_offsets.specs.Timings.{offset_of}
use Rattle.pt_rounds.specs.Asked.{IsLeastOf}
use Rattle.pt_engine.specs.Asked.{result_lists}
use Rattle.pt_paced_laws.proofs.FewRounds.{rounds_are_few}
use Rattle.pt_rounds.proofs.Runs.{ended_finished, ended_long, open_after_quiet, stands_next}
use Rattle.pt_rounds.proofs.going_on.go_on.Goals as goal
use Rattle.pt_rounds.proofs.going_on.go_on.Goals.{then-quiet, else-quiet}

pub returns-in-Some : goal.returns-in-Some
returns-in-Some g c = record {
  outcome = λ plan rows start.
      let s = c.loop-round.invariant.run plan rows start in
      ended_long plan rows c.loop-round._round c.loop-round.reading c.loop-round.platforms c.loop-round.pipes (result_lists c.loop-round.results) s c.pass.new.platforms c.pass.new.pipes (result_lists c.pass.new.results) c.in_ok-quiet.quiet
      (c.in_ok-quiet.ensures.passed plan rows c.loop-round._round s)
      c.in-Some.fault c.in-Some.ensures;
}

pub returns-then-are_finished : goal.returns-then-are_finished
returns-then-are_finished g c = record {
  outcome = λ plan rows start.
      let s = c.loop-round.invariant.run plan rows start in
      ended_finished plan rows c.loop-round._round c.loop-round.reading c.loop-round.platforms c.loop-round.pipes (result_lists c.loop-round.results) s c.pass.new.platforms c.pass.new.pipes (result_lists c.pass.new.results) c.in_ok-quiet.quiet
      (c.in_ok-quiet.ensures.passed plan rows c.loop-round._round s)
      c.in_default.ensures (c.are_finished.ensures.0 c.if-are_finished.true);
}

pub next_reading-reading-requires : goal.next_reading-reading-requires
next_reading-reading-requires g c = record {
  some_open =
      let (plan, rows, start) = c.requires.begun in
      let s = c.loop-round.invariant.run plan rows start in
      open_after_quiet plan rows c.loop-round._round c.loop-round.reading c.loop-round.platforms c.loop-round.pipes (result_lists c.loop-round.results) s c.pass.new.platforms c.pass.new.pipes (result_lists c.pass.new.results) c.in_ok-quiet.quiet
      (c.in_ok-quiet.ensures.passed plan rows c.loop-round._round s)
      c.if-quiet.true c.in_default.ensures (λ done. false≢true (sym c.if-are_finished.false ∙ c.are_finished.ensures.1 done));
}

pub loop-round-preserved : goal.loop-round-preserved
loop-round-preserved g c = record {
  run = λ plan rows start.
      let s = c.loop-round.invariant.run plan rows start in
      stands_next plan rows c.loop-round._round c.loop-round.reading c.loop-round.platforms c.loop-round.pipes (result_lists c.loop-round.results) s c.pass.new.platforms c.pass.new.pipes (result_lists c.pass.new.results) c.in_ok-quiet.quiet
      (c.in_ok-quiet.ensures.passed plan rows c.loop-round._round s)
      c.if-quiet.reading c.in_default.ensures (λ done. false≢true (sym c.if-are_finished.false ∙ c.are_finished.ensures.1 done))
      (elim c.if-quiet.branch [ then-quiet w ↦ λ e. subst (IsLeastOf (length c.pass.new.platforms) c.pass.new.platforms) (sym w.reading-is) w.next_reading-reading.ensures | else-quiet w ↦ λ e. absurd (false≢true (sym w.if-quiet.false ∙ e)) ])
      (elim c.if-quiet.branch [ then-quiet w ↦ λ e. absurd (false≢true (sym e ∙ w.if-quiet.true)) | else-quiet w ↦ λ e. w.reading-is ]);
  none = c.in_ok-quiet.ensures.none;
}

pub unreachable-requires : goal.unreachable-requires
unreachable-requires g c =
    let (plan, rows, start) = c.requires.begun in
    let s = c.loop-round.invariant.run plan rows start in
    let most = rounds_end plan.graph (level_of plan.ranks) rows (offset_of plan.offsets) s.rounds c.loop-round.reading s.together (wired plan.graph s.admitted.lawful) s.admitted.levels s.fit s.admitted.feasible s.admitted.offsets.units s.run in
    let few = rounds_are_few plan.graph rows s.admitted.lawful s.fit in
    omega (arith, most, few, s.rounds_made, c.loop-round-test.false)

pub pass-requires-clause-begun : goal.pass-requires-clause-begun
pass-requires-clause-begun g c = let (plan, rows, start) = c.requires.begun in (plan, rows, c.loop-round._round, c.loop-round.invariant.run plan rows start)
