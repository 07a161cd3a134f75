use Rattle.std.proofs.Common.{Some, refl, subst, sym}
use Rattle.pt_io.specs.Calls.{SourceCall, SinkCall, reading, writing}
use Rattle.pt_sensor_files.proofs.Asking.{asks_none}
use Rattle.pt_words.specs.declared.orders.Order as declared
use Rattle.pt_words.specs.Claims.{HasFewClaims}
use Rattle.pt_words.specs.Views.{in_words}
use Rattle.pt_run.specs.Asks.{AsksOf}
use Rattle.pt_run.specs.Due.{IsDue, answer_by}
use Rattle.pt_run.specs.Prompt.{IsPrompt}
use Rattle.pt_run.proofs.Answering.{few_for}
use Rattle.pt_run.proofs.prompt.answer_order.Goals as goal

pub answer_file-requires-clause-prompt : goal.answer_file-requires-clause-prompt
answer_file-requires-clause-prompt g c = subst (λ (o : declared.Order). IsPrompt (in_words o)) c.in-Over.is c.requires.prompt

pub answer_file-requires-clause-few : goal.answer_file-requires-clause-few
answer_file-requires-clause-few g c = few_for c.in-Over.command c.in-Over.graph.claims (subst (λ (o : declared.Order). HasFewClaims (in_words o)) c.in-Over.is c.requires.few)

pub returns-in-Over-clause-due : goal.returns-in-Over-clause-due
returns-in-Over-clause-due g c =
    let r : SourceCall = reading g.S.Source c.args.source.now c.answer_file.new.source in
    let w : SinkCall = writing g.K.Sink c.args.out.now c.answer_file.new.out in
    subst (λ (o : declared.Order). IsDue (Some (in_words o)) (g.S.Source.contents c.args.source.now) c.args.blocks.now.listed.items (answer_by c.answer_file.result r w)) (sym c.in-Over.is) c.answer_file.ensures.due

pub returns-in-Make-clause-due : goal.returns-in-Make-clause-due
returns-in-Make-clause-due g c =
    let contents = g.S.Source.contents c.args.source.now in
    let r : SourceCall = reading g.S.Source c.args.source.now c.args.source.now in
    let w : SinkCall = writing g.K.Sink c.args.out.now c.make.new.out in
    subst (λ (o : declared.Order). IsDue (Some (in_words o)) contents c.args.blocks.now.listed.items (answer_by c.make.result r w)) (sym c.in-Make.is) (c.make.ensures.due contents r)

pub returns-in-Make-clause-asks : goal.returns-in-Make-clause-asks
returns-in-Make-clause-asks g c =
    let asked = g.S.Source.asked c.args.source.now in
    let r : SourceCall = reading g.S.Source c.args.source.now c.args.source.now in
    subst (λ (o : declared.Order). AsksOf c.make.result.fault (Some (in_words o)) (g.S.Source.contents c.args.source.now) c.args.blocks.now.listed.items r) (sym c.in-Make.is) (asks_none asked asked refl)

pub returns-in-Migrate-clause-due : goal.returns-in-Migrate-clause-due
returns-in-Migrate-clause-due g c =
    let r : SourceCall = reading g.S.Source c.args.source.now c.migrate.new.source in
    let w : SinkCall = writing g.K.Sink c.args.out.now c.migrate.new.out in
    subst (λ (o : declared.Order). IsDue (Some (in_words o)) (g.S.Source.contents c.args.source.now) c.args.blocks.now.listed.items (answer_by c.migrate.result r w)) (sym c.in-Migrate.is) c.migrate.ensures.due

pub returns-in-Audit-clause-due : goal.returns-in-Audit-clause-due
returns-in-Audit-clause-due g c =
    let r : SourceCall = reading g.S.Source c.args.source.now c.audit.new.source in
    let w : SinkCall = writing g.K.Sink c.args.out.now c.audit.new.out in
    subst (λ (o : declared.Order). IsDue (Some (in_words o)) (g.S.Source.contents c.args.source.now) c.args.blocks.now.listed.items (answer_by c.audit.result r w)) (sym c.in-Audit.is) c.audit.ensures.due

pub returns-in-Replay-clause-due : goal.returns-in-Replay-clause-due
returns-in-Replay-clause-due g c =
    let r : SourceCall = reading g.S.Source c.args.source.now c.replay.new.source in
    let w : SinkCall = writing g.K.Sink c.args.out.now c.replay.new.out in
    subst (λ (o : declared.Order). IsDue (Some (in_words o)) (g.S.Source.contents c.args.source.now) c.args.blocks.now.listed.items (answer_by c.replay.result r w)) (sym c.in-Replay.is) c.replay.ensures.due
