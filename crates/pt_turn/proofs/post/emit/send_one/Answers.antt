use Rattle.std.proofs.Common.{◌≡◌, ap, sym, ◌∙◌, rules}
use Rattle.pt_semantics.specs.Meaning.{added}
use Rattle.pt_tags.specs.Tags.{plus}
use Rattle.pt_queue.specs.Events.{waiting_in, value_in}
use Rattle.pt_turn.specs.Posts.Sent.{sent}
use Rattle.pt_turn.proofs.Posts.Going.{sent_event, sent_there}
use Rattle.pt_turn.proofs.post.emit.send_one.Goals as goal

pub insert-requires-clause-absent : goal.insert-requires-clause-absent
insert-requires-clause-absent c =
    c.requires.absent c.args.wire.to c.args.wire.input (plus c.args.tag c.args.delay) c.in-Some.value
    (ap (λ o. sent c.args.wire c.args.delay c.args.until c.args.tag o c.args.wire.to c.args.wire.input (plus c.args.tag c.args.delay)) c.in-Some.is ∙ sent_there c.args.wire c.args.delay c.args.until c.args.tag c.in-Some.value c.if-until-later.false)

pub returns-in-Some-clause-waits : goal.returns-in-Some-clause-waits
returns-in-Some-clause-waits c =
    let waits : waiting_in c.insert.new.self.events ≡ added (waiting_in c.args.queue.now.events) (value_in (record { tag = plus c.args.tag c.args.delay; actor = c.args.wire.to; port = c.args.wire.input; value = c.in-Some.value })) = search rules in
    waits
    ∙ ap (added (waiting_in c.args.queue.now.events))
    (sent_event c.args.wire c.args.delay c.args.until c.args.tag c.in-Some.value c.if-until-later.false
    ∙ ap (sent c.args.wire c.args.delay c.args.until c.args.tag) (sym c.in-Some.is))
