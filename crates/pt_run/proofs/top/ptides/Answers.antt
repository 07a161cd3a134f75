use Rattle.std.proofs.Common.{Option}
use Rattle.pt_io.specs.Calls.{reading, writing}
use Rattle.pt_io.specs.Clocks.{viewed}
use Rattle.pt_run.specs.Due.{Answer, as_answer}
use Rattle.pt_run.specs.Texts.{left_at}
use Rattle.pt_words.specs.Grammar.{Order, order_of}
use Rattle.pt_words.proofs.Numbers.{few_claims}
use Rattle.pt_run.proofs.OfDue as of_due
use Rattle.pt_run.proofs.top.ptides.Goals as goal

pub returns : goal.returns
returns g c =
    let order : Option Order = order_of c.args.words.now in
    let contents = g.S.Source.contents c.args.source.now in
    let blocks = c.args.blocks.now.listed.items in
    let o = c.run_words-ending.result in
    let e = c.run_words-ending.ensures in
    let before = viewed g.C.Clock.readings g.C.Clock.ahead c.args.clocks.items in
    let now = viewed g.C.Clock.readings g.C.Clock.ahead c.run_words-ending.new.clocks.items in
    let a : Answer = as_answer o.fault (left_at o order before now) (reading g.S.Source c.args.source.now c.run_words-ending.new.source) (writing g.K.Sink c.args.out.now c.run_words-ending.new.out) in
    record {
      status = e.status;
      asks = e.asks;
      headline = of_due.headline order contents blocks a e.due;
      replay_headline = of_due.replay_headline order contents blocks a e.due;
      missed = of_due.missed order contents blocks a e.due o.status e.status;
      misses = of_due.misses order contents blocks a e.due o.status e.status;
      due = e.due;
      exact = of_due.exact order contents blocks a e.due (few_claims c.args.words.now);
      complete = of_due.complete order contents blocks a e.due o.status e.status;
      complete_in_bounds = of_due.complete_in_bounds order contents blocks a e.due o.status e.status;
      complete_by_any_clock = of_due.complete_by_any_clock order contents blocks a e.due;
      reads = e.reads;
      writes = e.writes;
      clocks = e.clocks;
      flushed = e.flushed;
      notes = e.notes;
    }
