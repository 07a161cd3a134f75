use Rattle.std.proofs.Common.{rules, ◌≡◌, ◌∙◌, length, replicate, ap}
use Rattle.pt_io.specs.Clocks.{viewed}
use Rattle.pt_io.specs.contracts.clock.StepClockClock.TheImpl as step
use Rattle.pt_run.specs.Readings.{step_clock}
use Rattle.pt_run.proofs.OwnClocks.{as_many, count_of, outcome_by_steps}
use Rattle.pt_run.proofs.engines.run_by_steps.Goals as goal

pub alone-requires-clause-clocks : goal.alone-requires-clause-clocks
alone-requires-clause-clocks g c =
    let count : c.len.result ≡ length c.args.platforms.items = search rules in
    count_of step.readings-value.it step.ahead-value.it c.in_ok-clocks.clocks.items c.len.result (step_clock c.args.start c.args.step) c.in_ok-clocks.ensures ∙ count

pub returns : goal.returns
returns g c = λ plan rows ready.
    let count : c.len.result ≡ length c.args.platforms.items = search rules in
    let ended = c.in_ok-rounds.field-0 in
    let outcome = c.in_ok-rounds.ensures.outcome plan rows ready in
    let began = viewed step.readings-value.it step.ahead-value.it c.in_ok-clocks.clocks.items in
    let now = viewed step.readings-value.it step.ahead-value.it ended.clocks.items in
    let many : c.len.result ≡ length ended.rounds.platforms.items = count ∙ as_many plan rows began now c.args.platforms.items ended.rounds.platforms.items ended.rounds.fault ready outcome.by_clocks in
    outcome_by_steps c.args.workers c.args.start c.args.step plan rows began now ended.rounds.platforms.items ended.rounds.fault
    (c.in_ok-clocks.ensures ∙ ap (λ n. replicate n (step_clock c.args.start c.args.step)) many) outcome
