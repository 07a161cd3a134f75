use Rattle.std.proofs.Common.{◌++◌, ap, ◌∙◌}
use Rattle.pt_semantics.specs.Closing.{on_link}
use Rattle.pt_turn.proofs.Closes.Ending.{end_one}
use Rattle.pt_turn.proofs.close.ends.end_on.Goals as goal

pub returns-clause-ends : goal.returns-clause-ends
returns-clause-ends c = λ k. c.push_reserved.ensures.messages k ∙ ap (λ ms. on_link k c.args.outbox.now.items ++ ms) (end_one k c.args.link c.args.from c.args.number c.if-from-number.false)
