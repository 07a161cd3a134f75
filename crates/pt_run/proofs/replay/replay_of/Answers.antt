use Rattle.std.proofs.Common.{◌∷◌, [], Some, subst, sym}
use Rattle.std.specs.Arc.{arc_value}
use Rattle.pt_io.specs.Calls.{SourceCall, reading}
use Rattle.pt_offsets.specs.Plans.{Parts}
use Rattle.pt_run.specs.Asks.{AsksOver}
use Rattle.pt_run.proofs.Asks.{memory_asked, outcome_asks, whole_asks}
use Rattle.pt_run.proofs.ReplayEnds.{memory_stops, replay_lines, replay_ran_over, replay_stops_over, unread_stops}
use Rattle.pt_run.proofs.replay.replay_of.Goals as goal

pub returns-in-Err-clause-stopped : goal.returns-in-Err-clause-stopped
returns-in-Err-clause-stopped g c =
    let r : SourceCall = reading g.S.Source c.args.source.now c.read_inputs.new.source in
    unread_stops c.in-Err.fault c.with_nothing.result c.args.air.now c.args.log (g.S.Source.contents c.args.source.now) (arc_value c.args.plan.now).graph r c.with_nothing.ensures.fault c.with_nothing.ensures.nothing c.in-Err.ensures.refused

pub returns-in-Err-clause-asks : goal.returns-in-Err-clause-asks
returns-in-Err-clause-asks g c =
    subst (λ f. AsksOver (Some f) [] (arc_value c.args.plan.now).graph.actors (c.args.air.now ∷ []) (g.S.Source.asked c.args.source.now) (g.S.Source.asked c.read_inputs.new.source)) (sym c.with_nothing.ensures.fault) c.in-Err.ensures.asks

pub returns-in-Ok-run_over_air-clause-ran : goal.returns-in-Ok-run_over_air-clause-ran
returns-in-Ok-run_over_air-clause-ran g c =
    replay_ran_over c.args.air.now c.args.log (g.S.Source.contents c.args.source.now) (arc_value c.args.plan.now) c.in-Ok.inputs.entries.items c.in-Ok.inputs.air c.in-Ok.ensures.recorded
    c.in-Ok-run_over_air.rounds.platforms.items c.in-Ok-run_over_air.rounds.fault c.outputs_of.result c.in-Ok-run_over_air.ensures c.outputs_of.ensures.output

pub returns-in-Ok-run_over_air-clause-lines : goal.returns-in-Ok-run_over_air-clause-lines
returns-in-Ok-run_over_air-clause-lines g c =
    replay_lines c.in-Ok-run_over_air.rounds.fault (arc_value c.args.plan.now) c.args.log c.in-Ok-run_over_air.rounds.platforms.items c.outputs_of.result c.outputs_of.ensures.output

pub returns-in-Ok-run_over_air-clause-stopped : goal.returns-in-Ok-run_over_air-clause-stopped
returns-in-Ok-run_over_air-clause-stopped g c =
    let r : SourceCall = reading g.S.Source c.args.source.now c.read_inputs.new.source in
    replay_stops_over c.args.air.now c.args.log (g.S.Source.contents c.args.source.now) (arc_value c.args.plan.now) c.in-Ok.inputs.entries.items c.in-Ok.inputs.air c.in-Ok.ensures.recorded
    c.in-Ok-run_over_air.rounds.platforms.items c.in-Ok-run_over_air.rounds.fault c.in-Ok-run_over_air.ensures c.outputs_of.result r c.outputs_of.ensures.stop

pub returns-in-Ok-run_over_air-clause-asks : goal.returns-in-Ok-run_over_air-clause-asks
returns-in-Ok-run_over_air-clause-asks g c =
    let plan : Parts = arc_value c.args.plan.now in
    let last = c.args.air.now ∷ [] in
    let before = g.S.Source.asked c.args.source.now in
    let now = g.S.Source.asked c.read_inputs.new.source in
    outcome_asks plan.graph last before now c.in-Ok.inputs.air.breach c.in-Ok-run_over_air.rounds.fault c.in-Ok-run_over_air.rounds.platforms.items c.outputs_of.result c.outputs_of.ensures.stop (whole_asks plan.graph.actors last before now c.in-Ok.ensures.asks)

pub returns-clause-stopped : goal.returns-clause-stopped
returns-clause-stopped g c =
    let r : SourceCall = reading g.S.Source c.args.source.now c.read_inputs.new.source in
    memory_stops c.with_nothing-in-Err-run_over_air.result c.args.air.now c.args.log (g.S.Source.contents c.args.source.now) (arc_value c.args.plan.now).graph r c.with_nothing-in-Err-run_over_air.ensures.fault c.with_nothing-in-Err-run_over_air.ensures.nothing

pub returns-clause-asks : goal.returns-clause-asks
returns-clause-asks g c =
    let plan : Parts = arc_value c.args.plan.now in
    let last = c.args.air.now ∷ [] in
    let before = g.S.Source.asked c.args.source.now in
    let now = g.S.Source.asked c.read_inputs.new.source in
    subst (λ f. AsksOver (Some f) [] plan.graph.actors last before now) (sym c.with_nothing-in-Err-run_over_air.ensures.fault) (memory_asked plan.graph last before now (whole_asks plan.graph.actors last before now c.in-Ok.ensures.asks))
