use Rattle.std.proofs.Common.{[], ◌∷◌, subst, refl}
use Rattle.std.specs.Arc.{arc_value}
use Rattle.pt_io.specs.Calls.{SourceCall, SinkCall, reading, writing}
use Rattle.pt_types.specs.declared.graph.Graph.{Graph}
use Rattle.pt_run.specs.Auditing.{lawful_line}
use Rattle.pt_run.specs.Asks.{AsksOver}
use Rattle.pt_run.specs.Due.{IsAudited, IsJudgedBy, UnlessMemory}
use Rattle.pt_run.specs.Texts.{fault_in, left_by}
use Rattle.pt_run.proofs.Asks.{given_asks, unplanned_asks}
use Rattle.pt_run.proofs.Endings.{given_due}
use Rattle.pt_run.proofs.Planned.{unplanned}
use Rattle.pt_run.proofs.audit.audit_graph.Goals as goal

pub returns-clause-due : goal.returns-clause-due
returns-clause-due g c =
    let contents = g.S.Source.contents c.args.source.now in
    let r : SourceCall = reading g.S.Source c.args.source.now c.judge-judged.new.source in
    let w : SinkCall = writing g.K.Sink c.args.out.now c.end_audit.new.out in
    subst (λ (z : Graph). UnlessMemory (record { fault = c.end_audit.result.fault; left = left_by c.end_audit.result; read = r; wrote = w }) (IsAudited c.args.log.now contents z [])) c.in-Ok.ensures.plan
    (given_due c.end_audit.result r w (λ unit. lawful_line) c.judge-judged.result (IsAudited c.args.log.now contents (arc_value c.in-Ok.plan).graph []) c.judge-judged.ensures.due c.end_audit.ensures.gives)

pub returns-clause-asks : goal.returns-clause-asks
returns-clause-asks g c =
    let last = c.args.log.now ∷ [] in
    let w : SinkCall = writing g.K.Sink c.args.out.now c.end_audit.new.out in
    given_asks [] c.args.graph.actors last (g.S.Source.asked c.args.source.now) (g.S.Source.asked c.judge-judged.new.source) (λ unit. lawful_line) c.judge-judged.result c.end_audit.result w c.end_audit.ensures.gives
    (subst (λ (h : Graph). AsksOver (fault_in c.judge-judged.result) [] h.actors last (g.S.Source.asked c.args.source.now) (g.S.Source.asked c.judge-judged.new.source)) c.in-Ok.ensures.plan c.judge-judged.ensures.asks)

pub returns-in-Err-clause-asks : goal.returns-in-Err-clause-asks
returns-in-Err-clause-asks g c = unplanned_asks c.args.graph.actors (c.args.log.now ∷ []) (g.S.Source.asked c.args.source.now) (g.S.Source.asked c.args.source.now) c.args.graph c.in-Err.ending c.in-Err.ensures.refused refl

pub returns-in-Err-clause-due : goal.returns-in-Err-clause-due
returns-in-Err-clause-due g c =
    let contents = g.S.Source.contents c.args.source.now in
    let r : SourceCall = reading g.S.Source c.args.source.now c.args.source.now in
    let w : SinkCall = writing g.K.Sink c.args.out.now c.args.out.now in
    unplanned c.in-Err.ending c.args.graph c.in-Err.ensures.refused [] [] contents r w (IsJudgedBy c.args.log.now contents c.args.graph []) refl
