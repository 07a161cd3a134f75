use Rattle.std.proofs.Common.{[], ◌∷◌, subst, refl}
use Rattle.std.specs.Arc.{arc_value}
use Rattle.pt_io.specs.Calls.{SourceCall, SinkCall, reading, writing}
use Rattle.pt_types.specs.declared.graph.Graph.{Graph}
use Rattle.pt_run.specs.Asks.{AsksOver}
use Rattle.pt_run.specs.Due.{IsReplayedBy}
use Rattle.pt_run.specs.Texts.{stop_in}
use Rattle.pt_run.proofs.Asks.{ended_asks, unplanned_asks}
use Rattle.pt_run.proofs.ReplayEnds.{replay_due}
use Rattle.pt_run.proofs.Planned.{unplanned}
use Rattle.pt_run.proofs.replay.replay_graph.Goals as goal

pub returns-clause-due : goal.returns-clause-due
returns-clause-due g c =
    let contents = g.S.Source.contents c.args.source.now in
    let r : SourceCall = reading g.S.Source c.args.source.now c.replay_of-ran.new.source in
    let w : SinkCall = writing g.K.Sink c.args.out.now c.end_run.new.out in
    replay_due c.args.air.now c.args.log contents (arc_value c.in-Ok.plan) r w c.args.graph c.in-Ok.ensures.plan c.replay_of-ran.result c.end_run.result c.replay_of-ran.ensures.ran c.replay_of-ran.ensures.stopped c.end_run.ensures.ended

pub returns-clause-asks : goal.returns-clause-asks
returns-clause-asks g c =
    let last = c.args.air.now ∷ [] in
    let w : SinkCall = writing g.K.Sink c.args.out.now c.end_run.new.out in
    ended_asks c.replay_of-ran.result c.end_run.result w c.args.graph.actors last (g.S.Source.asked c.args.source.now) (g.S.Source.asked c.replay_of-ran.new.source) c.end_run.ensures.ended
    (subst (λ (h : Graph). AsksOver (stop_in c.replay_of-ran.result) [] h.actors last (g.S.Source.asked c.args.source.now) (g.S.Source.asked c.replay_of-ran.new.source)) c.in-Ok.ensures.plan c.replay_of-ran.ensures.asks)

pub returns-in-Err-clause-asks : goal.returns-in-Err-clause-asks
returns-in-Err-clause-asks g c = unplanned_asks c.args.graph.actors (c.args.air.now ∷ []) (g.S.Source.asked c.args.source.now) (g.S.Source.asked c.args.source.now) c.args.graph c.in-Err.ending c.in-Err.ensures.refused refl

pub returns-in-Err-clause-due : goal.returns-in-Err-clause-due
returns-in-Err-clause-due g c =
    let contents = g.S.Source.contents c.args.source.now in
    let r : SourceCall = reading g.S.Source c.args.source.now c.args.source.now in
    let w : SinkCall = writing g.K.Sink c.args.out.now c.args.out.now in
    unplanned c.in-Err.ending c.args.graph c.in-Err.ensures.refused [] [] contents r w (IsReplayedBy c.args.air.now c.args.log contents c.args.graph []) refl
