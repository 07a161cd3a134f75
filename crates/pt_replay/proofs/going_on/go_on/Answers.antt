use Rattle.std.proofs.Common.{◌∙◌, Some, arith, sym, subst}
use Rattle.std.proofs.lemmas.Bool.{false≢true}
use Rattle.pt_semantics.proofs.LawfulEdges.{wired}
use Rattle.pt_causality.specs.Ranked.{level_of}
use Rattle.pt_replay.specs.Visits.Moments.{IsLeastNumber, IsMoment}
use Rattle.pt_engine.specs.Asked.{result_lists}
use Rattle.pt_paced_laws.proofs.FewRounds.{rounds_are_few}
use Rattle.pt_replay.specs.Passing.{PipesAreEmpty}
use Rattle.pt_replay_laws.proofs.Ending.{replays_end}
use Rattle.pt_replay.proofs.Runs.{ended_fault, ended_finished, moment_after_quiet, stands_next}
use Rattle.pt_replay.proofs.going_on.go_on.Goals as goal
use Rattle.pt_replay.proofs.going_on.go_on.Goals.{then-quiet+in_ok-now, else-quiet}

pub pass-requires : goal.pass-requires
pass-requires g c = record {
  begun =
      let (plan, rows, start, empty, from) = c.requires.begun in
      (plan, rows, c.loop-round._round, c.loop-round.invariant.stands plan rows start, subst (PipesAreEmpty plan.graph) (sym c.loop-round.invariant.pipes) empty, c.loop-round.invariant.arrivals plan rows start from);
}

pub returns-in-Some : goal.returns-in-Some
returns-in-Some g c = record {
  outcome = λ plan rows start.
      let s = c.loop-round.invariant.stands plan rows start in
      ended_fault plan rows c.args.air.now c.loop-round._round c.loop-round.now c.loop-round.platforms c.loop-round.airways (result_lists c.loop-round.results) s c.pass.new.platforms c.pass.new.airways (result_lists c.pass.new.results) c.in_ok-quiet.quiet
      (c.in_ok-quiet.ensures.passed plan rows c.loop-round._round s) c.in-Some.fault c.in-Some.ensures;
}

pub returns-then-are_finished : goal.returns-then-are_finished
returns-then-are_finished g c = record {
  outcome = λ plan rows start.
      let s = c.loop-round.invariant.stands plan rows start in
      ended_finished plan rows c.args.air.now c.loop-round._round c.loop-round.now c.loop-round.platforms c.loop-round.airways (result_lists c.loop-round.results) s c.pass.new.platforms c.pass.new.airways (result_lists c.pass.new.results) c.in_ok-quiet.quiet
      (c.in_ok-quiet.ensures.passed plan rows c.loop-round._round s) c.in_default.ensures (c.are_finished.ensures.0 c.if-are_finished.true);
}

pub time_after-requires : goal.time_after-requires
time_after-requires g c = record {
  some =
      let (plan, rows, start, empty, from) = c.requires.begun in
      let s = c.loop-round.invariant.stands plan rows start in
      moment_after_quiet plan rows c.args.air.now c.loop-round._round c.loop-round.now c.loop-round.platforms c.loop-round.airways (result_lists c.loop-round.results) s c.pass.new.platforms c.pass.new.airways (result_lists c.pass.new.results) c.in_ok-quiet.quiet
      (c.in_ok-quiet.ensures.passed plan rows c.loop-round._round s)
      c.if-quiet.true c.in_default.ensures (λ done. false≢true (sym c.if-are_finished.false ∙ c.are_finished.ensures.1 done));
}

pub loop-round-preserved : goal.loop-round-preserved
loop-round-preserved g c = record {
  stands = λ plan rows start.
      let s = c.loop-round.invariant.stands plan rows start in
      stands_next plan rows c.args.air.now c.loop-round._round c.loop-round.now c.loop-round.platforms c.loop-round.airways (result_lists c.loop-round.results) s c.pass.new.platforms c.pass.new.airways (result_lists c.pass.new.results) c.in_ok-quiet.quiet
      (c.in_ok-quiet.ensures.passed plan rows c.loop-round._round s)
      c.if-quiet.now c.in_default.ensures (λ done. false≢true (sym c.if-are_finished.false ∙ c.are_finished.ensures.1 done))
      (elim c.if-quiet.branch [ then-quiet+in_ok-now w ↦ λ e. subst (λ n. IsLeastNumber (IsMoment c.args.air.now c.pass.new.platforms c.pass.new.airways) (Some n)) (sym w.now-is) w.in_ok-now.ensures | else-quiet w ↦ λ e. absurd (false≢true (sym w.if-quiet.false ∙ e)) ])
      (elim c.if-quiet.branch [ then-quiet+in_ok-now w ↦ λ e. absurd (false≢true (sym e ∙ w.if-quiet.true)) | else-quiet w ↦ λ e. w.now-is ]);
  arrivals = λ plan rows start from. c.in_ok-quiet.ensures.arrivals plan rows c.loop-round._round (c.loop-round.invariant.stands plan rows start) (c.loop-round.invariant.arrivals plan rows start from);
  pipes = c.in_ok-quiet.ensures.pipes ∙ c.loop-round.invariant.pipes;
}

pub unreachable-requires : goal.unreachable-requires
unreachable-requires g c =
    let (plan, rows, start, empty, from) = c.requires.begun in
    let s = c.loop-round.invariant.stands plan rows start in
    let most = replays_end plan.graph (level_of plan.ranks) c.args.air.now rows s.rounds c.loop-round.now s.state (wired plan.graph s.admitted.lawful) s.admitted.levels s.fit s.run in
    let few = rounds_are_few plan.graph rows s.admitted.lawful s.fit in
    omega (arith, most, few, s.rounds_made, c.loop-round-test.false)
