use Rattle.std.proofs.Common.{◌≡◌, Some, subst, sym}
use Rattle.pt_io.specs.Calls.{SourceCall, SinkCall, reading, writing}
use Rattle.pt_io.specs.Clocks.{viewed}
use Rattle.pt_words.specs.Claims.{HasFewClaims}
use Rattle.pt_words.specs.Grammar.{Order, over}
use Rattle.pt_words.specs.Views.{file_in, in_words}
use Rattle.pt_run.specs.Asks.{AsksOf}
use Rattle.pt_run.specs.Clocks.{AreBack}
use Rattle.pt_run.specs.Due.{IsDue, as_answer}
use Rattle.pt_run.specs.Making.{ReportsOf}
use Rattle.pt_run.specs.Prompt.{command_of}
use Rattle.pt_run.specs.Texts.{left_at}
use Rattle.pt_run.proofs.Answering.{answered, back_as_handed, few_for}
use Rattle.pt_run.proofs.top.run_order.Goals as goal

pub run_by_own_clocks-requires-clause-few : goal.run_by_own_clocks-requires-clause-few
run_by_own_clocks-requires-clause-few g c = λ κs lives. few_for (command_of c.in-Some.run') c.in-Some.run'.graph.claims (subst HasFewClaims c.in-Some.ensures.own c.requires.few)

pub returns-in-Some : goal.returns-in-Some
returns-in-Some g c =
    let contents = g.S.Source.contents c.args.source.now in
    let blocks = c.args.blocks.now.listed.items in
    let o = c.run_by_own_clocks.result in
    let e = c.run_by_own_clocks.ensures in
    let r : SourceCall = reading g.S.Source c.args.source.now c.run_by_own_clocks.new.source in
    let w : SinkCall = writing g.K.Sink c.args.out.now c.run_by_own_clocks.new.out in
    let notes : SinkCall = writing g.E.Sink c.args.notes.now c.run_by_own_clocks.new.notes in
    let before = viewed g.C.Clock.readings g.C.Clock.ahead c.args.clocks.now.items in
    let now = viewed g.C.Clock.readings g.C.Clock.ahead c.run_by_own_clocks.new.clocks.items in
    let is : over (command_of c.in-Some.run') (file_in c.in-Some.run'.graph) ≡ in_words c.args.order = sym c.in-Some.ensures.own in
    record {
      status = e.status;
      asks = subst (λ (order : Order). AsksOf o.fault (Some order) contents blocks r) is e.asks;
      due = subst (λ (order : Order). IsDue (Some order) contents blocks (as_answer o.fault (left_at o (Some order) before now) r w)) is e.due;
      clocks = λ never. subst (λ (order : Order). AreBack (Some order) o.fault c.args.clocks.now.items c.run_by_own_clocks.new.clocks.items) is (e.clocks never);
      flushed = e.flushed;
      notes = subst (λ (order : Order). ReportsOf o.fault o.misses o.platforms.items (Some order) contents blocks notes) is e.notes;
      reads = e.reads;
      writes = e.writes;
    }

pub returns-in-None-clause-due : goal.returns-in-None-clause-due
returns-in-None-clause-due g c =
    let r : SourceCall = reading g.S.Source c.args.source.now c.answer.new.source in
    let w : SinkCall = writing g.K.Sink c.args.out.now c.answer.new.out in
    let views = viewed g.C.Clock.readings g.C.Clock.ahead c.args.clocks.now.items in
    answered (in_words c.args.order) c.answer.result views views (g.S.Source.contents c.args.source.now) c.args.blocks.now.listed.items r w (c.own_run_of.ensures.prompt c.in-None.is) c.answer.ensures.due

pub returns-in-None-clause-clocks : goal.returns-in-None-clause-clocks
returns-in-None-clause-clocks g c = λ never. back_as_handed (in_words c.args.order) c.answer.result.fault c.args.clocks.now.items
