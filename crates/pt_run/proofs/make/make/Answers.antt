use Rattle.std.proofs.Common.{rules, ◌∙◌, ap, List, ℕ}
use Rattle.std.specs.Prelude.{string_bytes}
use Rattle.pt_io.specs.Calls.{SinkCall, writing}
use Rattle.pt_io.specs.Causes.{AppendsPart, Rose}
use Rattle.pt_run.specs.Making.{IsMadeRun}
use Rattle.pt_run.specs.Written.{Leaves}
use Rattle.pt_run.proofs.Made.{made_part, reports_nothing}
use Rattle.pt_run.proofs.make.make.Goals as goal

pub returns-clause-notes : goal.returns-clause-notes
returns-clause-notes g c =
    reports_nothing c.done.result.fault c.done.result.misses (g.E.Sink.faults c.args.notes.now) (g.E.Sink.written c.args.notes.now) c.done.ensures.fault (ap (λ (l : Leaves). l.misses) c.done.ensures.left ∙ c.new.ensures.items)

pub returns-then-is_err-clause-due : goal.returns-then-is_err-clause-due
returns-then-is_err-clause-due g c =
    let w : SinkCall = writing g.K.Sink c.args.out.now c.put_text.new.out in
    let text : List ℕ = string_bytes c.in-Ok.summary in
    let made : IsMadeRun c.args.number c.in-Ok.field-0.platforms.items text = search rules in
    let rose : Rose w.before w.now = search rules in
    let part : AppendsPart w.written_before w.written_now text = search rules in
    λ contents r. made_part c.stopped.result c.args.number c.args.workers c.in-Ok.field-0.platforms.items text contents c.args.blocks.now.listed.items r w c.stopped.ensures.fault c.stopped.ensures.left made rose part
