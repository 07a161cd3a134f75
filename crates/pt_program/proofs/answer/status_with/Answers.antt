use Rattle.std.proofs.Common.{string_bytes}
use Rattle.pt_io.specs.Calls.{reading, writing}
use Rattle.pt_program.proofs.Orders.{over_words}
use Rattle.pt_program.proofs.answer.status_with.Goals as goal

pub returns-in-Ok-true : goal.returns-in-Ok-true
returns-in-Ok-true g c =
    over_words c.args.option.now.words.items c.as_slice-words.result.now c.in-Ok-true.field-0 (string_bytes c.args.option.now.file) c.status_over.result (g.S.Source.contents c.args.source.now) c.args.blocks.now.listed.items
    (reading g.S.Source c.args.source.now c.status_over.new.source) (writing g.K.Sink c.args.out.now c.status_over.new.out) (writing g.E.Sink c.args.notes.now c.status_over.new.notes)
    c.as_slice-words.ensures.value c.in-Ok-true.ensures c.in-Ok-true.field-0-test c.status_over.ensures
