use Rattle.std.proofs.Common.{List, ℕ, reverse, subst, sym}
use Rattle.pt_causality.specs.Ranking.{IsCycleInLists}
use Rattle.pt_causality.proofs.Cycles.{ring_closed}
use Rattle.pt_causality.proofs.ring.ring_at.Goals as goal

pub returns : goal.returns
returns c = λ incoming closed.
    subst (λ (z : List ℕ). IsCycleInLists incoming z) (sym c.new.ensures)
    (ring_closed incoming (reverse c.args.trail.now) c.args.edge c.in-Ok.actors.items c.rotate_to_least.new.numbers.items closed c.in-Ok.ensures c.rotate_to_least.ensures)
