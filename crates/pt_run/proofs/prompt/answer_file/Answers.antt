use Rattle.std.proofs.Common.{[], ◌∷◌, refl, subst}
use Rattle.pt_io.specs.Calls.{Contents, SourceCall, SinkCall, reading, writing}
use Rattle.pt_run.specs.Due.{Answer, IsDueFor, UnlessMemory}
use Rattle.pt_run.specs.Texts.{left_by}
use Rattle.pt_run.specs.Written.{Leaves}
use Rattle.pt_run.proofs.Reported.{reported_file}
use Rattle.pt_run.specs.Asks.{actors_for}
use Rattle.pt_run.proofs.Asks.{asks_on, from_graph}
use Rattle.pt_run.proofs.Endings.{has_nothing}
use Rattle.pt_run.proofs.Stages.{command_on_file, command_past, graph_reported}
use Rattle.pt_run.proofs.prompt.answer_file.Goals as goal
use Rattle.pt_words.specs.Views.{file_in}

pub returns-in-Ok-clause-due : goal.returns-in-Ok-clause-due
returns-in-Ok-clause-due g c =
    let contents = g.S.Source.contents c.args.source.now in
    let r : SourceCall = reading g.S.Source c.graph_at.new.source c.answer_command.new.source in
    let w : SinkCall = writing g.K.Sink c.args.out.now c.answer_command.new.out in
    let left : Leaves = left_by c.answer_command.result in
    let a : Answer = record { fault = c.answer_command.result.fault; left = left; read = r; wrote = w } in
    command_on_file contents c.args.blocks.now.listed.items (file_in c.args.graph_file) c.in-Ok.graph c.in-Ok.ensures.graph c.answer_command.result.fault left
    (g.S.Source.asked c.args.source.now) (g.S.Source.asked c.graph_at.new.source) (g.S.Source.asked c.answer_command.new.source)
    (g.S.Source.faults c.args.source.now) (g.S.Source.faults c.graph_at.new.source) (g.S.Source.faults c.answer_command.new.source) w
    c.in-Ok.ensures.asks c.graph_at.ensures.grows c.args.command (subst (λ (t : Contents). UnlessMemory a (IsDueFor c.args.command t c.in-Ok.graph [])) c.graph_at.ensures.keeps c.answer_command.ensures.due)

pub returns-in-Ok-clause-asks : goal.returns-in-Ok-clause-asks
returns-in-Ok-clause-asks g c =
    asks_on (g.S.Source.contents c.args.source.now) c.args.blocks.now.listed.items (file_in c.args.graph_file) (actors_for c.args.command) [] (g.S.Source.asked c.args.source.now) (g.S.Source.asked c.answer_command.new.source) c.in-Ok.graph c.answer_command.result.fault (g.S.Source.asked c.graph_at.new.source)
    c.in-Ok.ensures.graph c.in-Ok.ensures.asks c.answer_command.ensures.asks

pub returns-in-Ok-clause-notes : goal.returns-in-Ok-clause-notes
returns-in-Ok-clause-notes g c =
    let r : SourceCall = reading g.S.Source c.graph_at.new.source c.answer_command.new.source in
    let w : SinkCall = writing g.K.Sink c.args.out.now c.answer_command.new.out in
    let notes : SinkCall = writing g.E.Sink c.args.notes.now c.answer_command.new.notes in
    let left : Leaves = left_by c.answer_command.result in
    let past = command_past (g.S.Source.contents c.graph_at.new.source) c.in-Ok.graph [] (record { fault = c.answer_command.result.fault; left = left; read = r; wrote = w }) c.args.command c.answer_command.ensures.due in
    reported_file c.args.command c.answer_command.result.fault c.answer_command.result.misses c.answer_command.result.platforms.items (g.S.Source.contents c.args.source.now) c.args.blocks.now.listed.items (file_in c.args.graph_file) c.in-Ok.graph notes c.in-Ok.ensures.graph past.0 c.answer_command.ensures.notes

pub returns-in-Err-clause-due : goal.returns-in-Err-clause-due
returns-in-Err-clause-due g c =
    let contents = g.S.Source.contents c.args.source.now in
    let blocks = c.args.blocks.now.listed.items in
    let r : SourceCall = reading g.S.Source c.args.source.now c.graph_at.new.source in
    let w : SinkCall = writing g.K.Sink c.args.out.now c.args.out.now in
    let a : Answer = record { fault = c.refused.result.fault; left = left_by c.refused.result; read = r; wrote = w } in
    graph_reported contents blocks (file_in c.args.graph_file) a (λ z. IsDueFor c.args.command contents z (c.args.graph_file.name.now ∷ []) a) (has_nothing c.refused.result [] [] c.refused.ensures.left) refl c.in-Err.fault c.report-fault.result c.refused.ensures.fault c.report-fault.ensures.fault c.in-Err.ensures.refused

pub returns-in-Err-clause-asks : goal.returns-in-Err-clause-asks
returns-in-Err-clause-asks g c =
    from_graph (g.S.Source.contents c.args.source.now) c.args.blocks.now.listed.items (file_in c.args.graph_file) (actors_for c.args.command) [] (g.S.Source.asked c.args.source.now) (g.S.Source.asked c.graph_at.new.source)
    c.refused.result.fault c.in-Err.fault c.report-fault.result c.refused.ensures.fault c.report-fault.ensures.fault c.in-Err.ensures.asks_alone
