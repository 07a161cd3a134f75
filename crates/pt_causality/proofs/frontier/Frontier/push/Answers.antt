use Rattle.pt_causality.proofs.Fronts.{joined_ready, joined_later}
use Rattle.pt_causality.proofs.frontier.Frontier.push.Goals as goal

pub returns-then-eq : goal.returns-then-eq
returns-then-eq c = joined_ready _ _ _ _ c.self.view_is c.args.unit _ c.if-eq.ensures c.in_ok-push.ensures.items

pub returns : goal.returns
returns c = joined_later _ _ _ _ c.self.view_is _ _ c.in_ok-push-2.ensures.permutation
