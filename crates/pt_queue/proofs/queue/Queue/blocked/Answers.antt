use Rattle.std.proofs.Common.{◌≡◌, true, false, ◌↔◌, ap, subst, sym}
use Rattle.pt_types.specs.declared.graph.Unit.{Unit}
use Rattle.pt_causality.specs.Delays.{least_of}
use Rattle.pt_queue.specs.Groups.{AreGroups}
use Rattle.pt_queue.specs.Events.{IsBlocked, IsClear, Queued, waiting_in}
use Rattle.pt_queue.specs.Lines.{all_of, with_events}
use Rattle.pt_queue.specs.Tagged.{SomeHoldsUp, unit_holds_up}
use Rattle.pt_queue.proofs.Holding.{free_is, held_is}
use Rattle.pt_queue.proofs.Views.{placed_settled}
use Rattle.pt_queue.proofs.queue.Queue.blocked.Goals as goal

pub returns-clause-blocked : goal.returns-clause-blocked
returns-clause-blocked c = λ g lawful are is unit.
    let table = c.self.inside.groups.items in
    let events = all_of (with_events c.self.inside.lines c.self.inside.loose.items) in
    let groups = ap (λ (v : Queued). v.groups) c.self.view_is in
    subst (λ (v : Queued). (c.is_blocked.result ≡ true) ↔ IsBlocked g (waiting_in v.events) c.args.unit c.args.tag) c.self.view_is
    (held_is g table (least_of c.args.least.now) events c.self.inside.tags c.args.unit c.args.tag lawful (subst (AreGroups g) (sym groups) are) (placed_settled table c.self.inside.lines c.self.inside.loose.items c.self.invariant.0) c.self.invariant.2 is unit c.is_blocked.result
    (subst (λ gs. c.is_blocked.result ≡ true → SomeHoldsUp gs (least_of c.args.least.now) c.args.unit c.args.tag c.self.inside.tags) c.as_slice.ensures.value c.is_blocked.ensures.held)
    (subst (λ gs. c.is_blocked.result ≡ false → (x : Unit) → unit_holds_up gs (least_of c.args.least.now) c.args.unit c.args.tag c.self.inside.tags x ≡ false) c.as_slice.ensures.value c.is_blocked.ensures.free))

pub returns-clause-clear : goal.returns-clause-clear
returns-clause-clear c = λ g lawful are is unit.
    let table = c.self.inside.groups.items in
    let events = all_of (with_events c.self.inside.lines c.self.inside.loose.items) in
    let groups = ap (λ (v : Queued). v.groups) c.self.view_is in
    subst (λ (v : Queued). (c.is_blocked.result ≡ false) ↔ IsClear g (waiting_in v.events) c.args.unit c.args.tag) c.self.view_is
    (free_is g table (least_of c.args.least.now) events c.self.inside.tags c.args.unit c.args.tag lawful (subst (AreGroups g) (sym groups) are) (placed_settled table c.self.inside.lines c.self.inside.loose.items c.self.invariant.0) c.self.invariant.2 is unit c.is_blocked.result
    (subst (λ gs. c.is_blocked.result ≡ true → SomeHoldsUp gs (least_of c.args.least.now) c.args.unit c.args.tag c.self.inside.tags) c.as_slice.ensures.value c.is_blocked.ensures.held)
    (subst (λ gs. c.is_blocked.result ≡ false → (x : Unit) → unit_holds_up gs (least_of c.args.least.now) c.args.unit c.args.tag c.self.inside.tags x ≡ false) c.as_slice.ensures.value c.is_blocked.ensures.free))
