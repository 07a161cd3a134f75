use Rattle.std.proofs.Common.{[], ◌∷◌, refl, subst}
use Rattle.pt_io.specs.Calls.{Contents, SourceCall, SinkCall, reading, writing}
use Rattle.pt_io.specs.Clocks.{viewed}
use Rattle.pt_types.specs.declared.graph.Graph.{Graph}
use Rattle.pt_run.specs.Due.{Answer, IsDueFor, UnlessMemory}
use Rattle.pt_run.specs.Clocks.{read_for}
use Rattle.pt_run.specs.Texts.{left_over}
use Rattle.pt_run.specs.Written.{Leaves}
use Rattle.pt_run.proofs.Reported.{reported_file}
use Rattle.pt_run.specs.Prompt.{command_of}
use Rattle.pt_run.proofs.Asks.{asks_on, from_graph}
use Rattle.pt_run.proofs.Endings.{has_nothing}
use Rattle.pt_run.proofs.Stages.{command_on_file, command_past, graph_reported}
use Rattle.pt_run.proofs.top.run_by_own_clocks.Goals as goal
use Rattle.pt_words.specs.Views.{file_in}

pub returns-in-Ok-clause-due : goal.returns-in-Ok-clause-due
returns-in-Ok-clause-due g c =
    let contents = g.S.Source.contents c.args.source.now in
    let r : SourceCall = reading g.S.Source c.graph_at.new.source c.run_graph.new.source in
    let w : SinkCall = writing g.K.Sink c.args.out.now c.run_graph.new.out in
    let left : Leaves = left_over c.run_graph.result (command_of c.args.run) (viewed g.C.Clock.readings g.C.Clock.ahead c.args.clocks.now.items) (viewed g.C.Clock.readings g.C.Clock.ahead c.run_graph.new.clocks.items) in
    let a : Answer = record { fault = c.run_graph.result.fault; left = left; read = r; wrote = w } in
    command_on_file contents c.args.blocks.now.listed.items (file_in c.args.run.graph) c.in-Ok.graph c.in-Ok.ensures.graph c.run_graph.result.fault left
    (g.S.Source.asked c.args.source.now) (g.S.Source.asked c.graph_at.new.source) (g.S.Source.asked c.run_graph.new.source)
    (g.S.Source.faults c.args.source.now) (g.S.Source.faults c.graph_at.new.source) (g.S.Source.faults c.run_graph.new.source) w
    c.in-Ok.ensures.asks c.graph_at.ensures.grows (command_of c.args.run) (subst (λ (t : Contents). UnlessMemory a (IsDueFor (command_of c.args.run) t c.in-Ok.graph [])) c.graph_at.ensures.keeps c.run_graph.ensures.due)

pub returns-in-Ok-clause-asks : goal.returns-in-Ok-clause-asks
returns-in-Ok-clause-asks g c =
    asks_on (g.S.Source.contents c.args.source.now) c.args.blocks.now.listed.items (file_in c.args.run.graph) (λ (h : Graph). h.actors) [] (g.S.Source.asked c.args.source.now) (g.S.Source.asked c.run_graph.new.source) c.in-Ok.graph c.run_graph.result.fault (g.S.Source.asked c.graph_at.new.source)
    c.in-Ok.ensures.graph c.in-Ok.ensures.asks c.run_graph.ensures.asks

pub returns-in-Ok-clause-notes : goal.returns-in-Ok-clause-notes
returns-in-Ok-clause-notes g c =
    let r : SourceCall = reading g.S.Source c.graph_at.new.source c.run_graph.new.source in
    let w : SinkCall = writing g.K.Sink c.args.out.now c.run_graph.new.out in
    let notes : SinkCall = writing g.E.Sink c.args.notes.now c.run_graph.new.notes in
    let left : Leaves = left_over c.run_graph.result (command_of c.args.run) (viewed g.C.Clock.readings g.C.Clock.ahead c.args.clocks.now.items) (viewed g.C.Clock.readings g.C.Clock.ahead c.run_graph.new.clocks.items) in
    let past = command_past (g.S.Source.contents c.graph_at.new.source) c.in-Ok.graph [] (record { fault = c.run_graph.result.fault; left = left; read = r; wrote = w }) (command_of c.args.run) c.run_graph.ensures.due in
    reported_file (command_of c.args.run) c.run_graph.result.fault c.run_graph.result.misses c.run_graph.result.platforms.items (g.S.Source.contents c.args.source.now) c.args.blocks.now.listed.items (file_in c.args.run.graph) c.in-Ok.graph notes c.in-Ok.ensures.graph past.0 c.run_graph.ensures.notes

pub returns-in-Err-clause-due : goal.returns-in-Err-clause-due
returns-in-Err-clause-due g c =
    let contents = g.S.Source.contents c.args.source.now in
    let blocks = c.args.blocks.now.listed.items in
    let r : SourceCall = reading g.S.Source c.args.source.now c.graph_at.new.source in
    let w : SinkCall = writing g.K.Sink c.args.out.now c.args.out.now in
    let views = viewed g.C.Clock.readings g.C.Clock.ahead c.args.clocks.now.items in
    let a : Answer = record { fault = c.refused.result.fault; left = left_over c.refused.result (command_of c.args.run) views views; read = r; wrote = w } in
    graph_reported contents blocks (file_in c.args.run.graph) a (λ z. IsDueFor (command_of c.args.run) contents z (c.args.run.graph.name.now ∷ []) a) (has_nothing c.refused.result (read_for (command_of c.args.run) views) (read_for (command_of c.args.run) views) c.refused.ensures.left) refl c.in-Err.fault c.report-fault.result c.refused.ensures.fault c.report-fault.ensures.fault c.in-Err.ensures.refused

pub returns-in-Err-clause-asks : goal.returns-in-Err-clause-asks
returns-in-Err-clause-asks g c =
    from_graph (g.S.Source.contents c.args.source.now) c.args.blocks.now.listed.items (file_in c.args.run.graph) (λ (h : Graph). h.actors) [] (g.S.Source.asked c.args.source.now) (g.S.Source.asked c.graph_at.new.source)
    c.refused.result.fault c.in-Err.fault c.report-fault.result c.refused.ensures.fault c.report-fault.ensures.fault c.in-Err.ensures.asks_alone
