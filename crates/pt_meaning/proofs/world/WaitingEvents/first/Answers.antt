use Rattle.std.proofs.Common.{◌≡◌, ⊎_elim, true, ap, sym, subst}
use Rattle.std.proofs.lemmas.Option.{IfSome_then}
use Rattle.pt_semantics.specs.Firing.{any_present}
use Rattle.pt_semantics.specs.Meaning.{Values, IsFirst, waiting, added}
use Rattle.pt_meaning.specs.declared.place.EventPlace.{EventPlace}
use Rattle.pt_meaning.specs.Waiting.{waits_in}
use Rattle.pt_meaning.specs.Early.{early_waits, left}
use Rattle.pt_meaning.specs.Held.{late_value}
use Rattle.pt_meaning.proofs.Earlies.{early_first, early_present, early_placed}
use Rattle.pt_meaning.proofs.Both.{first_of_both, only_late, only_early, present_early, present_late}
use Rattle.pt_meaning.proofs.world.WaitingEvents.first.Goals as goal

pub returns-in_default-clause-first : goal.returns-in_default-clause-first
returns-in_default-clause-first c = IfSome_then c.first-in_default.result c.first-in_default.ensures.first (λ next h rank actors steps sound.
    subst (λ (v : Values). IsFirst rank v next.actor next.tag)
    (sym (only_late (early_waits (left c.args.self.now.early)) (waits_in rank (late_value c.args.self.now.late)) (λ a p t. ap (λ xs. early_waits xs a p t) c.in_default.ensures)))
    (h rank actors steps sound.late))

pub returns-in_default-clause-present : goal.returns-in_default-clause-present
returns-in_default-clause-present c = IfSome_then c.first-in_default.result c.first-in_default.ensures.present (λ next h rank actors steps sound.
    present_late (early_waits (left c.args.self.now.early)) (waits_in rank (late_value c.args.self.now.late)) next.actor next.tag (h rank actors steps sound.late))

pub returns-in_default-first-clause-first : goal.returns-in_default-first-clause-first
returns-in_default-first-clause-first c = λ rank actors steps sound.
    subst (λ (v : Values). IsFirst rank v c.in-Some.early.actor c.in-Some.early.tag)
    (sym (only_early (early_waits (left c.args.self.now.early)) (waits_in rank (late_value c.args.self.now.late)) (c.in_default-first.ensures.empty rank)))
    (early_first rank actors (left c.args.self.now.early) c.in-Some.ensures.0 c.in-Some.ensures.1 c.in-Some.early c.in-Some.ensures.2 c.in-Some.ensures.3 sound.early)

pub returns-in_default-first-clause-present : goal.returns-in_default-first-clause-present
returns-in_default-first-clause-present c = λ rank actors steps sound.
    present_early (early_waits (left c.args.self.now.early)) (waits_in rank (late_value c.args.self.now.late)) c.in-Some.early.actor c.in-Some.early.tag (early_present (left c.args.self.now.early) c.in-Some.ensures.0 c.in-Some.ensures.1 c.in-Some.early c.in-Some.ensures.2 c.in-Some.ensures.3)

pub returns-clause-first : goal.returns-clause-first
returns-clause-first c = λ rank actors steps sound.
    let early = early_placed rank actors steps (left c.args.self.now.early) c.in-Some.ensures.0 c.in-Some.ensures.1 c.in-Some.early c.in-Some.ensures.2 c.in-Some.ensures.3 sound.early in
    let late = c.in-Some-first.ensures.within rank actors steps sound.late in
    let ranked : c.sooner.result.rank ≡ rank c.sooner.result.actor =
    ⊎_elim (λ (e : c.sooner.result ≡ c.in-Some.early). subst (λ (x : EventPlace). x.rank ≡ rank x.actor) (sym e) early.rank_is)
    (λ (e : c.sooner.result ≡ c.in-Some-first.late). subst (λ (x : EventPlace). x.rank ≡ rank x.actor) (sym e) late.rank_is) c.sooner.ensures.one in
    first_of_both rank (early_waits (left c.args.self.now.early)) (waits_in rank (late_value c.args.self.now.late)) c.sooner.result c.in-Some.early c.in-Some-first.late ranked early.rank_is late.rank_is
    c.sooner.ensures.first.0 c.sooner.ensures.first.1 (early_first rank actors (left c.args.self.now.early) c.in-Some.ensures.0 c.in-Some.ensures.1 c.in-Some.early c.in-Some.ensures.2 c.in-Some.ensures.3 sound.early) (c.in-Some-first.ensures.first rank actors steps sound.late)

pub returns-clause-present : goal.returns-clause-present
returns-clause-present c = λ rank actors steps sound.
    let e = early_waits (left c.args.self.now.early) in let l = waits_in rank (late_value c.args.self.now.late) in
    ⊎_elim
    (λ (is : c.sooner.result ≡ c.in-Some.early). subst (λ (x : EventPlace). any_present (waiting (added (early_waits (left c.args.self.now.early)) (waits_in rank (late_value c.args.self.now.late))) x.actor x.tag) ≡ true) (sym is)
    (present_early e l c.in-Some.early.actor c.in-Some.early.tag (early_present (left c.args.self.now.early) c.in-Some.ensures.0 c.in-Some.ensures.1 c.in-Some.early c.in-Some.ensures.2 c.in-Some.ensures.3)))
    (λ (is : c.sooner.result ≡ c.in-Some-first.late). subst (λ (x : EventPlace). any_present (waiting (added (early_waits (left c.args.self.now.early)) (waits_in rank (late_value c.args.self.now.late))) x.actor x.tag) ≡ true) (sym is)
    (present_late e l c.in-Some-first.late.actor c.in-Some-first.late.tag (c.in-Some-first.ensures.present rank actors steps sound.late)))
    c.sooner.ensures.one
