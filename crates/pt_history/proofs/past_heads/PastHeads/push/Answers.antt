use Rattle.std.proofs.Common.{◌∷◌, ◌++◌, [], ap, sym, ◌∙◌}
use Rattle.pt_history.specs.declared.head.Head.{Head}
use Rattle.pt_history.proofs.past_heads.PastHeads.push.Goals as goal

pub returns-in-Some-clause-items : goal.returns-in-Some-clause-items
returns-in-Some-clause-items c = c.push_run.ensures.items ∙ ap (λ (h : Head). c.args.self.now.items ++ h ∷ []) c.in-Some.ensures

pub returns-clause-items : goal.returns-clause-items
returns-clause-items c = c.push_single.ensures.items ∙ ap (λ (h : Head). c.args.self.now.items ++ h ∷ []) (sym c.in_default.ensures)
