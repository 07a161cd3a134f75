use Rattle.std.proofs.Common.{Option, Some}
use Rattle.pt_io.specs.Calls.{reading, writing}
use Rattle.pt_run.specs.Due.{Answer, answer_by}
use Rattle.pt_words.specs.Grammar.{Order}
use Rattle.pt_words.specs.Views.{in_words}
use Rattle.pt_run.proofs.OfDue as of_due
use Rattle.pt_run.proofs.prompt.answer.Goals as goal

pub returns : goal.returns
returns g c =
    let order : Option Order = Some (in_words c.args.order) in
    let contents = g.S.Source.contents c.args.source.now in
    let blocks = c.args.blocks.now.listed.items in
    let o = c.answer_order.result in
    let e = c.answer_order.ensures in
    let a : Answer = answer_by o (reading g.S.Source c.args.source.now c.answer_order.new.source) (writing g.K.Sink c.args.out.now c.answer_order.new.out) in
    record {
      status = e.status;
      asks = e.asks;
      headline = of_due.headline order contents blocks a e.due;
      replay_headline = of_due.replay_headline order contents blocks a e.due;
      missed = of_due.missed order contents blocks a e.due o.status e.status;
      misses = of_due.misses order contents blocks a e.due o.status e.status;
      due = e.due;
      exact = of_due.exact order contents blocks a e.due c.requires.few;
      complete = of_due.complete order contents blocks a e.due o.status e.status;
      complete_in_bounds = of_due.complete_in_bounds order contents blocks a e.due o.status e.status;
      complete_by_any_clock = of_due.complete_by_any_clock order contents blocks a e.due;
      reads = e.reads;
      writes = e.writes;
      flushed = e.flushed;
      notes = e.notes;
    }
