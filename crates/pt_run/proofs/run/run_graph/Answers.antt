use Rattle.std.proofs.Common.{[], refl, subst}
use Rattle.std.specs.Arc.{arc_value}
use Rattle.pt_io.specs.Calls.{SourceCall, SinkCall, reading, writing}
use Rattle.pt_io.specs.Clocks.{viewed}
use Rattle.pt_types.specs.declared.graph.Graph.{Graph}
use Rattle.pt_run.specs.Asks.{AsksOver}
use Rattle.pt_run.specs.Due.{HasRunBy}
use Rattle.pt_run.specs.Prompt.{choice_of}
use Rattle.pt_run.specs.Readings.{read_by}
use Rattle.pt_run.specs.Texts.{stop_in}
use Rattle.pt_run.proofs.Asks.{ended_asks, unplanned_asks}
use Rattle.pt_run.proofs.Planned.{back, ended_run, unplanned}
use Rattle.pt_run.proofs.run.run_graph.Goals as goal

pub returns-clause-due : goal.returns-clause-due
returns-clause-due g c =
    let contents = g.S.Source.contents c.args.source.now in
    let plan = arc_value c.in-Ok.plan in
    let before = read_by (choice_of c.args.clock) (viewed g.C.Clock.readings g.C.Clock.ahead c.args.clocks.now.items) in
    let now = read_by (choice_of c.args.clock) (viewed g.C.Clock.readings g.C.Clock.ahead c.run_plan-ran.new.clocks.items) in
    let r : SourceCall = reading g.S.Source c.args.source.now c.run_plan-ran.new.source in
    let w : SinkCall = writing g.K.Sink c.args.out.now c.end_run.new.out in
    ended_run c.args.workers (choice_of c.args.clock) c.args.log contents plan c.in-Ok.ensures.admitted r w c.args.graph c.in-Ok.ensures.plan c.run_plan-ran.result c.end_run.result before now c.run_plan-ran.ensures.ran c.run_plan-ran.ensures.stopped c.end_run.ensures.ended

pub returns-clause-clocks : goal.returns-clause-clocks
returns-clause-clocks g c = λ never.
    let w : SinkCall = writing g.K.Sink c.args.out.now c.end_run.new.out in
    back c.run_plan-ran.result c.end_run.result w (choice_of c.args.clock) c.args.clocks.now.items c.run_plan-ran.new.clocks.items c.end_run.ensures.ended c.run_plan-ran.ensures.clocks never

pub returns-clause-asks : goal.returns-clause-asks
returns-clause-asks g c =
    let w : SinkCall = writing g.K.Sink c.args.out.now c.end_run.new.out in
    let before = g.S.Source.asked c.args.source.now in
    let now = g.S.Source.asked c.run_plan-ran.new.source in
    ended_asks c.run_plan-ran.result c.end_run.result w c.args.graph.actors [] before now c.end_run.ensures.ended
    (subst (λ (h : Graph). AsksOver (stop_in c.run_plan-ran.result) [] h.actors [] before now) c.in-Ok.ensures.plan c.run_plan-ran.ensures.asks)

pub returns-in-Err-clause-asks : goal.returns-in-Err-clause-asks
returns-in-Err-clause-asks g c = unplanned_asks c.args.graph.actors [] (g.S.Source.asked c.args.source.now) (g.S.Source.asked c.args.source.now) c.args.graph c.in-Err.ending c.in-Err.ensures.refused refl

pub returns-in-Err-clause-due : goal.returns-in-Err-clause-due
returns-in-Err-clause-due g c =
    let contents = g.S.Source.contents c.args.source.now in
    let r : SourceCall = reading g.S.Source c.args.source.now c.args.source.now in
    let w : SinkCall = writing g.K.Sink c.args.out.now c.args.out.now in
    let views = read_by (choice_of c.args.clock) (viewed g.C.Clock.readings g.C.Clock.ahead c.args.clocks.now.items) in
    unplanned c.in-Err.ending c.args.graph c.in-Err.ensures.refused views views contents r w (HasRunBy c.args.workers (choice_of c.args.clock) c.args.log) refl
