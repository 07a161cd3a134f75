use Rattle.std.proofs.Common.{[], None, Some, inl, subst, sym}
use Rattle.std.specs.Arc.{arc_value}
use Rattle.pt_io.specs.Calls.{SourceCall, reading}
use Rattle.pt_offsets.specs.Plans.{Parts}
use Rattle.pt_run.specs.Asks.{AsksOver}
use Rattle.pt_run.specs.Runs.{LacksRows, paced_run_clocks}
use Rattle.pt_run.proofs.Asks.{memory_asked, outcome_asks, whole_asks}
use Rattle.pt_run.proofs.Finished.{run_of_outcome}
use Rattle.pt_run.proofs.paced_run.run_paced_plan.Goals as goal

pub returns-in-Err-clause-stopped : goal.returns-in-Err-clause-stopped
returns-in-Err-clause-stopped g c =
    let r : SourceCall = reading g.S.Source c.args.source.now c.opened_of.new.source in
    inl (subst (λ f. LacksRows f (g.S.Source.contents c.args.source.now) (arc_value c.args.plan.now) r) (sym c.with_nothing.ensures.fault) c.in-Err.ensures.fault, c.with_nothing.ensures.nothing)

pub returns-in-Err-clause-asks : goal.returns-in-Err-clause-asks
returns-in-Err-clause-asks g c =
    subst (λ f. AsksOver (Some f) [] (arc_value c.args.plan.now).graph.actors [] (g.S.Source.asked c.args.source.now) (g.S.Source.asked c.opened_of.new.source)) (sym c.with_nothing.ensures.fault) c.in-Err.ensures.asks

pub returns-in-Ok-run_paced-clause-ran : goal.returns-in-Ok-run_paced-clause-ran
returns-in-Ok-run_paced-clause-ran g c =
    let r : SourceCall = reading g.S.Source c.args.source.now c.opened_of.new.source in
    (run_of_outcome (g.S.Source.contents c.args.source.now) (paced_run_clocks c.args.workers) (arc_value c.args.plan.now) c.args.log
    c.in-Ok.platforms.items c.in-Ok-run_paced.rounds.platforms.items c.in-Ok-run_paced.rounds.fault c.outputs_of.result r c.in-Ok.ensures.opened c.in-Ok-run_paced.ensures c.outputs_of.ensures.output c.outputs_of.ensures.stop).0

pub returns-in-Ok-run_paced-clause-stopped : goal.returns-in-Ok-run_paced-clause-stopped
returns-in-Ok-run_paced-clause-stopped g c =
    let r : SourceCall = reading g.S.Source c.args.source.now c.opened_of.new.source in
    (run_of_outcome (g.S.Source.contents c.args.source.now) (paced_run_clocks c.args.workers) (arc_value c.args.plan.now) c.args.log
    c.in-Ok.platforms.items c.in-Ok-run_paced.rounds.platforms.items c.in-Ok-run_paced.rounds.fault c.outputs_of.result r c.in-Ok.ensures.opened c.in-Ok-run_paced.ensures c.outputs_of.ensures.output c.outputs_of.ensures.stop).1

pub returns-in-Ok-run_paced-clause-asks : goal.returns-in-Ok-run_paced-clause-asks
returns-in-Ok-run_paced-clause-asks g c =
    let plan : Parts = arc_value c.args.plan.now in
    let before = g.S.Source.asked c.args.source.now in
    let now = g.S.Source.asked c.opened_of.new.source in
    outcome_asks plan.graph [] before now None c.in-Ok-run_paced.rounds.fault c.in-Ok-run_paced.rounds.platforms.items c.outputs_of.result c.outputs_of.ensures.stop (whole_asks plan.graph.actors [] before now c.in-Ok.ensures.asks)

pub returns-in-Err-run_paced-clause-stopped : goal.returns-in-Err-run_paced-clause-stopped
returns-in-Err-run_paced-clause-stopped g c = inl (inl c.with_nothing-in-Err-run_paced.ensures.fault, c.with_nothing-in-Err-run_paced.ensures.nothing)

pub returns-in-Err-run_paced-clause-asks : goal.returns-in-Err-run_paced-clause-asks
returns-in-Err-run_paced-clause-asks g c =
    let plan : Parts = arc_value c.args.plan.now in
    let before = g.S.Source.asked c.args.source.now in
    let now = g.S.Source.asked c.opened_of.new.source in
    subst (λ f. AsksOver (Some f) [] plan.graph.actors [] before now) (sym c.with_nothing-in-Err-run_paced.ensures.fault) (memory_asked plan.graph [] before now (whole_asks plan.graph.actors [] before now c.in-Ok.ensures.asks))
