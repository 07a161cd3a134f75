use Rattle.std.specs.Prelude.{string_bytes}
use Rattle.pt_io.specs.Calls.{SourceCall, SinkCall, reading, writing}
use Rattle.pt_words.specs.declared.orders.ClockChoice.TheVariants.{Paced}
use Rattle.pt_words.specs.declared.orders.Command.{Command}
use Rattle.pt_words.specs.declared.orders.Command.TheVariants.{Check, Meaning, Run, Slacks}
use Rattle.pt_run.specs.Due.{IsDueFor, UnlessMemory, answer_by}
use Rattle.std.proofs.Common.{[], refl, subst, sym}
use Rattle.pt_run.proofs.Asks.{asks_no_files, given_asks, of_command}
use Rattle.pt_run.proofs.Endings.{given_due}
use Rattle.pt_run.proofs.Answering.{paced_command}
use Rattle.pt_run.proofs.prompt.answer_command.Goals as goal

pub returns-in-Check-clause-due : goal.returns-in-Check-clause-due
returns-in-Check-clause-due g c =
    let contents = g.S.Source.contents c.args.source.now in
    let r : SourceCall = reading g.S.Source c.args.source.now c.args.source.now in
    let w : SinkCall = writing g.K.Sink c.args.out.now c.put_answer.new.out in
    rw c.in-Check.is (given_due c.put_answer.result r w string_bytes c.check_answer-answer.result (IsDueFor Check contents c.args.graph []) (c.check_answer-answer.ensures contents r) c.put_answer.ensures.gives)

pub returns-in-Meaning-clause-due : goal.returns-in-Meaning-clause-due
returns-in-Meaning-clause-due g c =
    let contents = g.S.Source.contents c.args.source.now in
    let r : SourceCall = reading g.S.Source c.args.source.now c.meaning_answer-answer.new.source in
    let w : SinkCall = writing g.K.Sink c.args.out.now c.put_answer-in-Meaning.new.out in
    rw c.in-Meaning.is (given_due c.put_answer-in-Meaning.result r w string_bytes c.meaning_answer-answer.result (IsDueFor Meaning contents c.args.graph []) c.meaning_answer-answer.ensures.due c.put_answer-in-Meaning.ensures.gives)

pub returns-in-Meaning-clause-asks : goal.returns-in-Meaning-clause-asks
returns-in-Meaning-clause-asks g c =
    let w : SinkCall = writing g.K.Sink c.args.out.now c.put_answer-in-Meaning.new.out in
    rw c.in-Meaning.is (given_asks [] c.args.graph.actors [] (g.S.Source.asked c.args.source.now) (g.S.Source.asked c.meaning_answer-answer.new.source) string_bytes c.meaning_answer-answer.result c.put_answer-in-Meaning.result w c.put_answer-in-Meaning.ensures.gives c.meaning_answer-answer.ensures.asks)

pub returns-in-Slacks-clause-due : goal.returns-in-Slacks-clause-due
returns-in-Slacks-clause-due g c =
    let contents = g.S.Source.contents c.args.source.now in
    let r : SourceCall = reading g.S.Source c.args.source.now c.args.source.now in
    let w : SinkCall = writing g.K.Sink c.args.out.now c.put_answer-in-Slacks.new.out in
    rw c.in-Slacks.is (given_due c.put_answer-in-Slacks.result r w string_bytes c.slacks_answer-answer.result (IsDueFor Slacks contents c.args.graph []) (c.slacks_answer-answer.ensures contents r) c.put_answer-in-Slacks.ensures.gives)

pub returns-in-Slacks-clause-asks : goal.returns-in-Slacks-clause-asks
returns-in-Slacks-clause-asks g c = rw c.in-Slacks.is (asks_no_files c.put_answer-in-Slacks.result.fault (g.S.Source.asked c.args.source.now) (g.S.Source.asked c.args.source.now) refl)

pub returns-in-Run : goal.returns-in-Run
returns-in-Run g c =
    let r : SourceCall = reading g.S.Source c.args.source.now c.run_paced_graph.new.source in
    let w : SinkCall = writing g.K.Sink c.args.out.now c.run_paced_graph.new.out in
    let is = paced_command c.args.command _ _ _ c.in-Run.is c.requires.prompt in
    record {
      status = c.run_paced_graph.ensures.status;
      asks = of_command c.args.command (Run c.in-Run.workers Paced c.in-Run.log) c.run_paced_graph.result.fault c.args.graph (g.S.Source.asked c.args.source.now) (g.S.Source.asked c.run_paced_graph.new.source) (sym is) c.run_paced_graph.ensures.asks;
      due = subst (λ (d : Command). UnlessMemory (answer_by c.run_paced_graph.result r w) (IsDueFor d (g.S.Source.contents c.args.source.now) c.args.graph [])) is c.run_paced_graph.ensures.due;
      flushed = c.run_paced_graph.ensures.flushed;
      notes = c.run_paced_graph.ensures.notes;
      reads = c.run_paced_graph.ensures.reads;
      writes = c.run_paced_graph.ensures.writes;
    }

pub returns-in-Check-clause-asks : goal.returns-in-Check-clause-asks
returns-in-Check-clause-asks g c = rw c.in-Check.is (asks_no_files c.put_answer.result.fault (g.S.Source.asked c.args.source.now) (g.S.Source.asked c.args.source.now) refl)
