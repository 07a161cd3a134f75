use Rattle.std.proofs.Common.{not, sym, ap, subst, ◌∙◌}
use Rattle.std.proofs.lemmas.Bool.{false≢true}
use Rattle.pt_causality.specs.Delays.{AreLeast, least_of}
use Rattle.pt_turn.specs.Fields.State.{busy_in}
use Rattle.pt_turn.proofs.Claims.SafeTags.{open_clear, not_some}
use Rattle.pt_turn.proofs.Claims.Free.{not_true}
use Rattle.pt_turn.proofs.claim.safe.is_free_of_claims.Goals as goal

pub returns-then-is_behind : goal.returns-then-is_behind
returns-then-is_behind c = (
  λ h. absurd (false≢true h),
  λ safe. absurd (c.is_behind.ensures (busy_in c.args.fields.now.open_claims.items) c.args.reading c.if-is_behind.true safe),
)

pub returns-then-is_held_up : goal.returns-then-is_held_up
returns-then-is_held_up c =
    let least = subst (λ l. AreLeast c.args.plan.now.graph (least_of l)) (sym c.least-least.ensures.value) c.least-least.ensures.admitted.least in
    let claims = open_clear c.args.plan.now.graph (least_of c.least-least.result.now) c.args.fields.now.open_claims.items c.args.unit c.args.tag least c.requires.unit c.requires.sound.open_claims in (
      λ h. absurd (false≢true h),
      λ safe. absurd (false≢true (sym (c.is_held_up.ensures ∙ claims.1 safe.claims) ∙ c.if-is_held_up.true)),
    )

pub returns : goal.returns
returns c =
    let least = subst (λ l. AreLeast c.args.plan.now.graph (least_of l)) (sym c.least-least.ensures.value) c.least-least.ensures.admitted.least in
    let claims = open_clear c.args.plan.now.graph (least_of c.least-least.result.now) c.args.fields.now.open_claims.items c.args.unit c.args.tag least c.requires.unit c.requires.sound.open_claims in
    let clear = c.blocked.ensures.clear c.args.plan.now.graph c.least-least.ensures.admitted.lawful c.requires.sound.groups least c.requires.unit in (
      λ h. record {
        event = c.requires.tag.0;
        least = c.requires.tag.1;
        free = not_some (busy_in c.args.fields.now.open_claims.items c.args.unit) (sym c.has.ensures ∙ c.if-has.false);
        bounds = c.requires.due;
        events = clear.0 (not_true c.blocked.result h);
        claims = claims.0 (sym c.is_held_up.ensures ∙ c.if-is_held_up.false);
      },
      λ safe. ap not (clear.1 safe.events),
    )
