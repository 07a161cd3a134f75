use Rattle.std.proofs.Common.{subst}
use Rattle.pt_semantics.specs.Lists.{Each}
use Rattle.pt_queue.specs.Events.{IsPlaced, Queued}
use Rattle.pt_queue.proofs.Views.{placed_settled}
use Rattle.pt_queue.proofs.queue.Queue.actors.Goals as goal

pub returns-clause-placed : goal.returns-clause-placed
returns-clause-placed c = subst (λ (v : Queued). Each (IsPlaced v.groups) v.events) c.self.view_is (placed_settled c.self.inside.groups.items c.self.inside.lines c.self.inside.loose.items c.self.invariant.0)
