use Rattle.std.proofs.Common.{subst}
use Rattle.pt_semantics.specs.Paced.{IsNextReading}
use Rattle.pt_offsets.specs.Plans.{Parts}
use Rattle.pt_turn.specs.declared.platform.Platform.TheInside.{Inside}
use Rattle.pt_turn.specs.Platforms.{PlatformView, messages_of, state_at, view_of}
use Rattle.pt_turn.proofs.Idling.{knows_next}
use Rattle.pt_turn.proofs.platform.Platform.find_anew.Goals as goal

pub invariant_of-self : goal.invariant_of-self
invariant_of-self c =
    let p : Inside = c.self.inside in
    knows_next p c.next_reading-next.result c.self.invariant
    (subst (λ (plan : Parts). IsNextReading plan.graph p.number (state_at (view_of p)) c.next_reading-next.result) c.deref.ensures (c.next_reading-next.ensures (messages_of p.progress.history.turns)))

pub returns-clause-next : goal.returns-clause-next
returns-clause-next c =
    let p : Inside = c.self.inside in
    subst (λ (v : PlatformView). IsNextReading v.plan.graph v.number (state_at v) c.next_reading-next.result) c.self.view_is
    (subst (λ (plan : Parts). IsNextReading plan.graph p.number (state_at (view_of p)) c.next_reading-next.result) c.deref.ensures (c.next_reading-next.ensures (messages_of p.progress.history.turns)))
