use Rattle.std.proofs.Common.{[], refl, subst}
use Rattle.std.specs.Arc.{arc_value}
use Rattle.pt_io.specs.Calls.{SourceCall, SinkCall, reading, writing}
use Rattle.pt_types.specs.declared.graph.Graph.{Graph}
use Rattle.pt_words.specs.declared.orders.ClockChoice.TheVariants.{Paced}
use Rattle.pt_run.specs.Asks.{AsksOver}
use Rattle.pt_run.specs.Due.{HasRunBy}
use Rattle.pt_run.specs.Texts.{stop_in}
use Rattle.pt_run.proofs.Asks.{ended_asks, unplanned_asks}
use Rattle.pt_run.proofs.Planned.{ended_run, unplanned}
use Rattle.pt_run.proofs.paced_run.run_paced_graph.Goals as goal

pub returns-clause-due : goal.returns-clause-due
returns-clause-due g c =
    let contents = g.S.Source.contents c.args.source.now in
    let r : SourceCall = reading g.S.Source c.args.source.now c.run_paced_plan-ran.new.source in
    let w : SinkCall = writing g.K.Sink c.args.out.now c.end_run.new.out in
    ended_run c.args.workers Paced c.args.log contents (arc_value c.in-Ok.plan) c.in-Ok.ensures.admitted r w c.args.graph c.in-Ok.ensures.plan c.run_paced_plan-ran.result c.end_run.result [] [] c.run_paced_plan-ran.ensures.ran c.run_paced_plan-ran.ensures.stopped c.end_run.ensures.ended

pub returns-clause-asks : goal.returns-clause-asks
returns-clause-asks g c =
    let w : SinkCall = writing g.K.Sink c.args.out.now c.end_run.new.out in
    let before = g.S.Source.asked c.args.source.now in
    let now = g.S.Source.asked c.run_paced_plan-ran.new.source in
    ended_asks c.run_paced_plan-ran.result c.end_run.result w c.args.graph.actors [] before now c.end_run.ensures.ended
    (subst (λ (h : Graph). AsksOver (stop_in c.run_paced_plan-ran.result) [] h.actors [] before now) c.in-Ok.ensures.plan c.run_paced_plan-ran.ensures.asks)

pub returns-in-Err-clause-asks : goal.returns-in-Err-clause-asks
returns-in-Err-clause-asks g c = unplanned_asks c.args.graph.actors [] (g.S.Source.asked c.args.source.now) (g.S.Source.asked c.args.source.now) c.args.graph c.in-Err.ending c.in-Err.ensures.refused refl

pub returns-in-Err-clause-due : goal.returns-in-Err-clause-due
returns-in-Err-clause-due g c =
    let contents = g.S.Source.contents c.args.source.now in
    let r : SourceCall = reading g.S.Source c.args.source.now c.args.source.now in
    let w : SinkCall = writing g.K.Sink c.args.out.now c.args.out.now in
    unplanned c.in-Err.ending c.args.graph c.in-Err.ensures.refused [] [] contents r w (HasRunBy c.args.workers Paced c.args.log) refl
