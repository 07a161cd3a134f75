use Rattle.std.proofs.Common.{◌<◌, ap, subst}
use Rattle.pt_semantics.specs.Lists.{Each}
use Rattle.pt_types.specs.declared.air.InAir.{InAir}
use Rattle.pt_semantics.specs.Arrivals.{AirwayView}
use Rattle.pt_replay_laws.proofs.Arriving.{NeverFall-rest, all_later}
use Rattle.pt_replay.proofs.airway.airway.Airway.arrived.Goals as goal

-- arrivals never fall, so none is before the first
pub returns-then-first-now-clause-later : goal.returns-then-first-now-clause-later
returns-then-first-now-clause-later c =
    subst (Each (λ (m : InAir). c.args.now < m.arrives)) (ap (λ (a : AirwayView). a.on_way) c.self.view_is)
    (all_later c.args.now c.self.inside.on_way.items c.self.inside.latest c.in_ok-first.field-0.now c.self.invariant c.in_ok-first.ensures.lookup c.if-first-now.true)

pub invariant_of-self : goal.invariant_of-self
invariant_of-self c = rw c.pop_front.ensures.rest (NeverFall-rest c.self.inside.on_way.items c.self.inside.latest c.self.invariant)
