use Rattle.std.proofs.Common.{not, refl, sym, ap, subst, ◌∙◌}
use Rattle.pt_causality.specs.Delays.{AreLeast, least_of}
use Rattle.pt_queue.specs.Events.{waiting_in}
use Rattle.pt_turn.proofs.Claims.Free.{free_alone, no_claims, not_true, only_clear}
use Rattle.pt_turn.proofs.claim.safe.is_free.Goals as goal

pub returns-then-is_only : goal.returns-then-is_only
returns-then-is_only c = (
  λ h. free_alone c.args.plan.now.graph (waiting_in c.args.fields.now.queue.events) c.args.fields.now.open_claims.items c.args.reading c.args.unit c.args.tag
      (no_claims c.args.fields.now.open_claims.items (sym c.is_empty.ensures ∙ c.if-not-is_empty.false)) c.requires.tag c.requires.due
      (only_clear c.args.plan.now.graph (waiting_in c.args.fields.now.queue.events) c.args.unit c.args.tag (c.if-is_only.ensures c.args.plan.now.graph c.requires.sound.groups refl)),
  λ safe. refl,
)

pub returns : goal.returns
returns c =
    let least = subst (λ l. AreLeast c.args.plan.now.graph (least_of l)) (sym c.least.ensures.value) c.least.ensures.admitted.least in
    let clear = c.blocked.ensures.clear c.args.plan.now.graph c.least.ensures.admitted.lawful c.requires.sound.groups least c.requires.unit in (
      λ h. free_alone c.args.plan.now.graph (waiting_in c.args.fields.now.queue.events) c.args.fields.now.open_claims.items c.args.reading c.args.unit c.args.tag
          (no_claims c.args.fields.now.open_claims.items (sym c.is_empty.ensures ∙ c.if-not-is_empty.false)) c.requires.tag c.requires.due
          (clear.0 (not_true c.blocked.result h)),
      λ safe. ap not (clear.1 safe.events),
    )
