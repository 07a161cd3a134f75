use Rattle.std.proofs.Common.{[], None, Some, ap, inl, subst, sym}
use Rattle.std.specs.Arc.{arc_value}
use Rattle.pt_io.specs.Calls.{SourceCall, reading}
use Rattle.pt_io.specs.Clocks.{viewed}
use Rattle.pt_offsets.specs.Plans.{Parts}
use Rattle.pt_run.specs.Asks.{AsksOver}
use Rattle.pt_run.specs.Prompt.{choice_of}
use Rattle.pt_run.specs.Runs.{LacksRows, read_with}
use Rattle.pt_run.specs.Texts.{stop_in}
use Rattle.pt_run.proofs.Asks.{memory_asked, outcome_asks, whole_asks}
use Rattle.pt_run.proofs.Finished.{run_of_outcome}
use Rattle.pt_run.proofs.Planned.{back_run, back_unread, stop_has_run}
use Rattle.pt_run.proofs.run.run_plan.Goals as goal

pub returns-in-Err-clause-stopped : goal.returns-in-Err-clause-stopped
returns-in-Err-clause-stopped g c =
    let r : SourceCall = reading g.S.Source c.args.source.now c.opened_of.new.source in
    inl (subst (λ f. LacksRows f (g.S.Source.contents c.args.source.now) (arc_value c.args.plan.now) r) (sym c.with_nothing.ensures.fault) c.in-Err.ensures.fault, c.with_nothing.ensures.nothing)

pub returns-in-Err-clause-clocks : goal.returns-in-Err-clause-clocks
returns-in-Err-clause-clocks g c = λ never. back_unread (choice_of c.args.clock) (Some c.with_nothing.result.fault) c.args.clocks.now.items

pub returns-in-Err-clause-asks : goal.returns-in-Err-clause-asks
returns-in-Err-clause-asks g c =
    subst (λ f. AsksOver (Some f) [] (arc_value c.args.plan.now).graph.actors [] (g.S.Source.asked c.args.source.now) (g.S.Source.asked c.opened_of.new.source)) (sym c.with_nothing.ensures.fault) c.in-Err.ensures.asks

pub returns-in-Ok-run_by-clause-ran : goal.returns-in-Ok-run_by-clause-ran
returns-in-Ok-run_by-clause-ran g c =
    let r : SourceCall = reading g.S.Source c.args.source.now c.opened_of.new.source in
    (run_of_outcome (g.S.Source.contents c.args.source.now) (read_with c.args.workers (choice_of c.args.clock) (viewed g.C.Clock.readings g.C.Clock.ahead c.args.clocks.now.items) (viewed g.C.Clock.readings g.C.Clock.ahead c.run_by.new.clocks.items)) (arc_value c.args.plan.now) c.args.log
    c.in-Ok.platforms.items c.in-Ok-run_by.rounds.platforms.items c.in-Ok-run_by.rounds.fault c.outputs_of.result r c.in-Ok.ensures.opened c.in-Ok-run_by.ensures.outcome c.outputs_of.ensures.output c.outputs_of.ensures.stop).0

pub returns-in-Ok-run_by-clause-stopped : goal.returns-in-Ok-run_by-clause-stopped
returns-in-Ok-run_by-clause-stopped g c =
    let r : SourceCall = reading g.S.Source c.args.source.now c.opened_of.new.source in
    (run_of_outcome (g.S.Source.contents c.args.source.now) (read_with c.args.workers (choice_of c.args.clock) (viewed g.C.Clock.readings g.C.Clock.ahead c.args.clocks.now.items) (viewed g.C.Clock.readings g.C.Clock.ahead c.run_by.new.clocks.items)) (arc_value c.args.plan.now) c.args.log
    c.in-Ok.platforms.items c.in-Ok-run_by.rounds.platforms.items c.in-Ok-run_by.rounds.fault c.outputs_of.result r c.in-Ok.ensures.opened c.in-Ok-run_by.ensures.outcome c.outputs_of.ensures.output c.outputs_of.ensures.stop).1

pub returns-in-Ok-run_by-clause-clocks : goal.returns-in-Ok-run_by-clause-clocks
returns-in-Ok-run_by-clause-clocks g c = λ never.
    back_run (choice_of c.args.clock) (stop_in c.outputs_of.result) c.args.clocks.now.items c.run_by.new.clocks.items
    (stop_has_run c.in-Ok-run_by.rounds.fault c.in-Ok-run_by.rounds.platforms.items c.outputs_of.result c.outputs_of.ensures.stop never) c.in-Ok-run_by.ensures.clocks

pub returns-in-Ok-run_by-clause-asks : goal.returns-in-Ok-run_by-clause-asks
returns-in-Ok-run_by-clause-asks g c =
    let plan : Parts = arc_value c.args.plan.now in
    let before = g.S.Source.asked c.args.source.now in
    let now = g.S.Source.asked c.opened_of.new.source in
    outcome_asks plan.graph [] before now None c.in-Ok-run_by.rounds.fault c.in-Ok-run_by.rounds.platforms.items c.outputs_of.result c.outputs_of.ensures.stop (whole_asks plan.graph.actors [] before now c.in-Ok.ensures.asks)

pub returns-in-Err-run_by-clause-stopped : goal.returns-in-Err-run_by-clause-stopped
returns-in-Err-run_by-clause-stopped g c = inl (inl c.with_nothing-in-Err-run_by.ensures.fault, c.with_nothing-in-Err-run_by.ensures.nothing)

pub returns-in-Err-run_by-clause-clocks : goal.returns-in-Err-run_by-clause-clocks
returns-in-Err-run_by-clause-clocks g c = λ never. absurd (never (ap Some c.with_nothing-in-Err-run_by.ensures.fault))

pub returns-in-Err-run_by-clause-asks : goal.returns-in-Err-run_by-clause-asks
returns-in-Err-run_by-clause-asks g c =
    let plan : Parts = arc_value c.args.plan.now in
    let before = g.S.Source.asked c.args.source.now in
    let now = g.S.Source.asked c.opened_of.new.source in
    subst (λ f. AsksOver (Some f) [] plan.graph.actors [] before now) (sym c.with_nothing-in-Err-run_by.ensures.fault) (memory_asked plan.graph [] before now (whole_asks plan.graph.actors [] before now c.in-Ok.ensures.asks))
