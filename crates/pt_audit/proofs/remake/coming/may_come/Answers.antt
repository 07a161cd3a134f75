use Rattle.std.proofs.Common.{◌≡◌, ◌<◌, ◌+◌, ℕ, Some, length, get_or, set, take, drop, sym, subst, ◌∙◌, arith}
use Rattle.std.specs.Prelude.{pos}
use Rattle.std.proofs.lemmas.Bool.{false≢true}
use Rattle.std.proofs.lemmas.List.{take_more}
use Rattle.pt_tags.specs.declared.message.Message.TheVariants.{Event}
use Rattle.pt_types.specs.declared.firing.OnLink.{OnLink}
use Rattle.pt_causality.specs.Ranked.{level_of}
use Rattle.pt_offsets.specs.Plans.{Parts}
use Rattle.pt_turn.specs.Platforms.{level_at, state_at}
use Rattle.pt_turn.specs.Turned.{MayCome}
use Rattle.pt_audit.specs.Remaking.Steps.{ComesNext}
use Rattle.pt_audit.proofs.Remaking.Came.{ComesOn, comes_next, nothing_came, one_comes}
use Rattle.pt_audit.proofs.Remaking.Histories.{running_tidy}
use Rattle.pt_audit.proofs.Remaking.Parts.{parted}
use Rattle.pt_audit.proofs.remake.coming.may_come.Goals as goal

-- a message that stands for none past the end of a list
abbrev none : OnLink
none = record { link = 0; message = Event (record { time = 0; step = 0 }) (pos 0) }

pub loop-message-init : goal.loop-message-init
loop-message-init c =
    let v = c.args.platform.now in
    nothing_came v.plan.graph (level_at v) v.number (state_at v) c.args.last.now (running_tidy v c.requires.running).orderly c.requires.last

pub loop-message-preserved : goal.loop-message-preserved
loop-message-preserved c =
    let v = c.args.platform.now in
    let within : c.loop-message.message-index < length c.args.messages.now = omega arith in
    let plan : c.deref.result.now ≡ v.plan = c.deref.ensures ∙ c.plan.ensures in
    let m : OnLink = get_or c.args.messages.now c.loop-message.message-index none in
    let next : ComesNext v.plan.graph (level_at v) v.number c.loop-message.last m =
    subst (λ (n : ℕ). ComesNext v.plan.graph (level_at v) n c.loop-message.last m) c.number.ensures
    (subst (λ (p : Parts). ComesNext p.graph (level_of p.ranks) c.number.result c.loop-message.last m) plan (c.comes_next.ensures.0 c.if-not-comes_next.false)) in
    subst (λ ms. ComesOn v.plan.graph (level_at v) v.number (state_at v) ms c.args.last.now (set c.loop-message.last m.link (Some m.message))) (sym (take_more c.args.messages.now c.loop-message.message-index none within))
    (one_comes v.plan.graph (level_at v) v.number (state_at v) (take c.loop-message.message-index c.args.messages.now) c.args.last.now c.loop-message.last m c.loop-message.invariant next)

pub returns-then-not-comes_next-clause-may : goal.returns-then-not-comes_next-clause-may
returns-then-not-comes_next-clause-may c =
    let v = c.args.platform.now in
    let within : c.loop-message.message-index < length c.args.messages.now = omega arith in
    let plan : c.deref.result.now ≡ v.plan = c.deref.ensures ∙ c.plan.ensures in
    let m : OnLink = get_or c.args.messages.now c.loop-message.message-index none in (
      λ no. absurd (false≢true no),
      λ may.
          let next : ComesNext v.plan.graph (level_at v) v.number c.loop-message.last m =
          comes_next v.plan.graph (level_at v) v.number (state_at v) (take c.loop-message.message-index c.args.messages.now) c.args.last.now c.loop-message.last m c.loop-message.invariant (drop (c.loop-message.message-index + 1) c.args.messages.now)
          (subst (MayCome v.plan.graph (level_at v) v.number (state_at v)) (parted c.args.messages.now c.loop-message.message-index none within) may) in
          absurd (false≢true (sym c.if-not-comes_next.true ∙ c.comes_next.ensures.1
          (subst (λ (p : Parts). ComesNext p.graph (level_of p.ranks) c.number.result c.loop-message.last m) (sym plan)
          (subst (λ (n : ℕ). ComesNext v.plan.graph (level_at v) n c.loop-message.last m) (sym c.number.ensures) next)))),
    )
