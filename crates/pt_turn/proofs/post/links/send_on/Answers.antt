use Rattle.std.proofs.Common.{◌≡◌, ◌==◌, ◌++◌, ◌∷◌, [], ap, sym, ◌∙◌, rules, if◌then◌else◌}
use Rattle.pt_tags.specs.declared.message.Message.{Message}
use Rattle.pt_semantics.specs.Closing.{on_link}
use Rattle.pt_turn.specs.Posts.Sent.{sent_on}
use Rattle.pt_turn.proofs.Posts.Going.{on_event}
use Rattle.pt_turn.proofs.post.links.send_on.Goals as goal

pub returns-in-Some-clause-sent : goal.returns-in-Some-clause-sent
returns-in-Some-clause-sent c = λ k.
    let pushed : on_link k c.push_reserved.new.self.items ≡ on_link k c.args.outbox.now.items ++ (if k == c.args.number then Message.Event c.args.tag c.in-Some.value ∷ [] else []) = search (rules, c.push_reserved.ensures.messages k) in
    pushed
    ∙ ap (λ ms. on_link k c.args.outbox.now.items ++ ms) (on_event k c.args.number c.args.actor c.args.tag c.args.link c.in-Some.value c.if-link-actor.false)
    ∙ ap (λ o. on_link k c.args.outbox.now.items ++ sent_on k c.args.number c.args.link c.args.actor c.args.tag o) (sym c.in-Some.is)
