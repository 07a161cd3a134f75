use Rattle.std.specs.Prelude.{option_map}
use Rattle.std.proofs.Common.{rules, ◌≡◌, ◌∙◌, None, Option, Some, ap, refl, subst, sym}
use Rattle.pt_io.specs.Calls.{SourceCall, SinkCall, reading, writing}
use Rattle.pt_sensor_files.proofs.Asking.{asks_none}
use Rattle.pt_io.specs.Clocks.{viewed}
use Rattle.pt_words.specs.Views.{in_words}
use Rattle.pt_words.specs.Grammar.{Order, order_of}
use Rattle.pt_run.specs.declared.fault.Fault.TheVariants.{Memory}
use Rattle.pt_run.specs.Asks.{AsksOf}
use Rattle.pt_run.specs.Clocks.{AreBack}
use Rattle.pt_run.specs.Due.{IsDue, as_answer}
use Rattle.pt_run.specs.Making.{ReportsOf}
use Rattle.pt_run.specs.Texts.{left_at}
use Rattle.pt_run.proofs.Asks.{asked_nothing}
use Rattle.pt_run.proofs.Answering.{makes_few}
use Rattle.pt_run.proofs.top.run_words.Goals as goal
use Rattle.pt_run.proofs.top.run_words.Goals.{in-Ok-None, in-Err}

pub run_order-requires-clause-few : goal.run_order-requires-clause-few
run_order-requires-clause-few g c = λ κs lives. rw c.in-Ok-Some.field-0-is at c.in-Ok-Some.ensures.few

pub run_order-requires-clause-number : goal.run_order-requires-clause-number
run_order-requires-clause-number g c = λ κs lives. makes_few c.args.words.now c.in-Ok-Some.order (sym (ap (option_map in_words) c.in-Ok-Some.field-0-is) ∙ c.in-Ok-Some.ensures.order)

pub returns-in-Ok-Some : goal.returns-in-Ok-Some
returns-in-Ok-Some g c =
    let contents = g.S.Source.contents c.args.source.now in
    let blocks = c.args.blocks.now.listed.items in
    let o = c.run_order.result in
    let e = c.run_order.ensures in
    let r : SourceCall = reading g.S.Source c.args.source.now c.run_order.new.source in
    let w : SinkCall = writing g.K.Sink c.args.out.now c.run_order.new.out in
    let notes : SinkCall = writing g.E.Sink c.args.notes.now c.run_order.new.notes in
    let before = viewed g.C.Clock.readings g.C.Clock.ahead c.args.clocks.now.items in
    let now = viewed g.C.Clock.readings g.C.Clock.ahead c.run_order.new.clocks.items in
    let is : Some (in_words c.in-Ok-Some.order) ≡ order_of c.args.words.now = sym (ap (option_map in_words) c.in-Ok-Some.field-0-is) ∙ c.in-Ok-Some.ensures.order in
    record {
      status = e.status;
      asks = subst (λ (order : Option Order). AsksOf o.fault order contents blocks r) is e.asks;
      due = subst (λ (order : Option Order). IsDue order contents blocks (as_answer o.fault (left_at o order before now) r w)) is e.due;
      clocks = λ never. subst (λ (order : Option Order). AreBack order o.fault c.args.clocks.now.items c.run_order.new.clocks.items) is (e.clocks never);
      flushed = e.flushed;
      notes = subst (λ (order : Option Order). ReportsOf o.fault o.misses o.platforms.items order contents blocks notes) is e.notes;
      reads = e.reads;
      writes = e.writes;
    }

pub returns-clause-asks : goal.returns-clause-asks
returns-clause-asks g c =
    let contents = g.S.Source.contents c.args.source.now in
    let asked = g.S.Source.asked c.args.source.now in
    let r : SourceCall = record { asked_before = asked; asked_now = asked; before = g.S.Source.faults c.args.source.now; now = g.S.Source.faults c.args.source.now } in
    elim c.match-order.branch [
      | in-Ok-None w ↦
          let none : order_of c.args.words.now ≡ None = search rules in
          subst (λ o. AsksOf c.refused.result.fault o contents c.args.blocks.now.listed.items r) (sym none) (asks_none asked asked refl)
      | in-Err w ↦
          let memory : c.refused.result.fault ≡ Some Memory = search rules in
          asked_nothing (order_of c.args.words.now) c.refused.result.fault contents c.args.blocks.now.listed.items r memory (asks_none asked asked refl)
    ]
