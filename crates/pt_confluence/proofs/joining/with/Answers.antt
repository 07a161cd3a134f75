use Rattle.std.proofs.Common.{◌++◌, ◌∷◌, map, sym, ap, ◌∙◌}
use Rattle.pt_confluence.specs.Joined.{joined_in_front, neighbours_joined, whole_firing}
use Rattle.pt_confluence.specs.Making.{after_last}
use Rattle.pt_confluence.proofs.Neighbours.{before_both}
use Rattle.pt_confluence.proofs.joining.with.Goals as goal

pub returns-then-is_same_firing : goal.returns-then-is_same_firing
returns-then-is_same_firing c = λ rest.
    ap (λ ts. c.args.joining.firings ++ map (whole_firing c.args.graph.now) ts)
    (ap (λ t. joined_in_front t (neighbours_joined rest)) c.both.ensures
    ∙ before_both c.in-Some.last c.args.task.now (neighbours_joined rest) (sym c.is_same_firing.ensures ∙ c.if-is_same_firing.true)
    ∙ ap (λ o. after_last o (c.args.task.now ∷ rest)) (sym c.in-Some.is))
