use Rattle.std.proofs.Common.{rules, ◌≡◌, [], inl, inr, refl}
use Rattle.pt_io.specs.Calls.{SourceCall, SinkCall, reading, writing}
use Rattle.pt_io.specs.Causes.{Appends, AppendsPart, Rose}
use Rattle.pt_run.proofs.Asks.{from_reported}
use Rattle.pt_run.specs.Due.{Answer, IsDueTo}
use Rattle.pt_run.specs.Texts.{left_by}
use Rattle.pt_words.specs.Grammar.{migrate}
use Rattle.pt_run.specs.Written.{leaves_nothing}
use Rattle.pt_run.proofs.Endings.{has_nothing, reported_due}
use Rattle.pt_run.proofs.migrate.migrate.Goals as goal
use Rattle.pt_words.specs.Views.{file_in}

pub returns-in-Err-clause-due : goal.returns-in-Err-clause-due
returns-in-Err-clause-due g c =
    let contents = g.S.Source.contents c.args.source.now in
    let blocks = c.args.blocks.now.listed.items in
    let r : SourceCall = reading g.S.Source c.args.source.now c.migrated.new.source in
    let w : SinkCall = writing g.K.Sink c.args.out.now c.args.out.now in
    let a : Answer = record { fault = c.refused.result.fault; left = left_by c.refused.result; read = r; wrote = w } in
    reported_due a c.in-Err.fault c.report-fault.result (IsDueTo (migrate (file_in c.args.graph_file)) contents blocks) (has_nothing c.refused.result [] [] c.refused.ensures.left) refl c.refused.ensures.fault c.report-fault.ensures.fault c.in-Err.ensures.due

pub returns-then-is_err-clause-due : goal.returns-then-is_err-clause-due
returns-then-is_err-clause-due g c =
    let r : SourceCall = reading g.S.Source c.args.source.now c.migrated.new.source in
    let w : SinkCall = writing g.K.Sink c.args.out.now c.put_text.new.out in
    let o = c.refused-then-is_err.result in
    let rose : Rose (g.K.Sink.faults c.args.out.now) (g.K.Sink.faults c.put_text.new.out) = search rules in
    let part : AppendsPart (g.K.Sink.written c.args.out.now) (g.K.Sink.written c.put_text.new.out) c.in-Ok.text.items = search rules in
    c.in-Ok.ensures.due (record { fault = o.fault; left = left_by o; read = r; wrote = w }) refl (has_nothing o [] [] c.refused-then-is_err.ensures.left, inr (c.refused-then-is_err.ensures.fault, rose, c.in-Ok.text.items, refl, part))

pub returns-clause-due : goal.returns-clause-due
returns-clause-due g c =
    let r : SourceCall = reading g.S.Source c.args.source.now c.migrated.new.source in
    let w : SinkCall = writing g.K.Sink c.args.out.now c.put_text.new.out in
    let o = c.done.result in
    let none : left_by o ≡ leaves_nothing = search rules in
    let all : Appends (g.K.Sink.written c.args.out.now) (g.K.Sink.written c.put_text.new.out) c.in-Ok.text.items = search rules in
    c.in-Ok.ensures.due (record { fault = o.fault; left = left_by o; read = r; wrote = w }) refl (has_nothing o [] [] none, inl (c.done.ensures.fault, c.in-Ok.text.items, refl, all))

pub returns-in-Err-clause-asks : goal.returns-in-Err-clause-asks
returns-in-Err-clause-asks g c =
    from_reported (g.S.Source.contents c.args.source.now) c.args.blocks.now.listed.items (file_in c.args.graph_file) (λ z. []) [] (g.S.Source.asked c.args.source.now) (g.S.Source.asked c.migrated.new.source)
    c.refused.result.fault c.in-Err.fault c.report-fault.result c.refused.ensures.fault c.report-fault.ensures.fault c.in-Err.ensures.asks
