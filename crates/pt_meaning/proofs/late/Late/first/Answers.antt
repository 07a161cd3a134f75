use Rattle.std.proofs.Common.{◌≡◌, ⊎_elim, true, sym, subst}
use Rattle.std.proofs.lemmas.Option.{IfSome_then}
use Rattle.pt_semantics.specs.Firing.{any_present}
use Rattle.pt_semantics.specs.Meaning.{Values, IsFirst, waiting, added}
use Rattle.pt_meaning.specs.declared.place.EventPlace.{EventPlace}
use Rattle.pt_meaning.specs.Waiting.{waits_in, IsPlaceIn}
use Rattle.pt_meaning.specs.Current.{current_value}
use Rattle.pt_meaning.specs.Held.{pending_value}
use Rattle.pt_meaning.proofs.Both.{first_of_both, only_late, only_early, present_early, present_late}
use Rattle.pt_meaning.proofs.Parts.{sound_near, sound_far}
use Rattle.pt_meaning.proofs.late.Late.first.Goals as goal

-- only the tag that runs has events, if any
pub returns-in_default-clause-first : goal.returns-in_default-clause-first
returns-in_default-clause-first c = IfSome_then c.first-in_default.result c.first-in_default.ensures.first (λ next h rank actors steps sound.
    subst (λ (v : Values). IsFirst rank v next.actor next.tag)
    (sym (only_late (waits_in rank (pending_value c.args.self.now.pending)) (waits_in rank (current_value c.args.self.now.current)) (c.in_default.ensures.empty rank)))
    (h rank actors steps (sound_far (pending_value c.args.self.now.pending) (current_value c.args.self.now.current) rank actors steps sound)))

pub returns-in_default-clause-present : goal.returns-in_default-clause-present
returns-in_default-clause-present c = IfSome_then c.first-in_default.result c.first-in_default.ensures.present (λ next h rank actors steps sound.
    present_late (waits_in rank (pending_value c.args.self.now.pending)) (waits_in rank (current_value c.args.self.now.current)) next.actor next.tag (h rank actors steps (sound_far (pending_value c.args.self.now.pending) (current_value c.args.self.now.current) rank actors steps sound)))

pub returns-in_default-clause-within : goal.returns-in_default-clause-within
returns-in_default-clause-within c = IfSome_then c.first-in_default.result c.first-in_default.ensures.within (λ next h rank actors steps sound.
    h rank actors steps (sound_far (pending_value c.args.self.now.pending) (current_value c.args.self.now.current) rank actors steps sound))

-- only the others have
pub returns-in_default-first-clause-first : goal.returns-in_default-first-clause-first
returns-in_default-first-clause-first c = λ rank actors steps sound.
    subst (λ (v : Values). IsFirst rank v c.in-Some.pending.actor c.in-Some.pending.tag)
    (sym (only_early (waits_in rank (pending_value c.args.self.now.pending)) (waits_in rank (current_value c.args.self.now.current)) (c.in_default-first.ensures.empty rank)))
    (c.in-Some.ensures.first rank actors steps (sound_near (pending_value c.args.self.now.pending) (current_value c.args.self.now.current) rank actors steps sound))

pub returns-in_default-first-clause-present : goal.returns-in_default-first-clause-present
returns-in_default-first-clause-present c = λ rank actors steps sound.
    present_early (waits_in rank (pending_value c.args.self.now.pending)) (waits_in rank (current_value c.args.self.now.current)) c.in-Some.pending.actor c.in-Some.pending.tag
    (c.in-Some.ensures.present rank actors steps (sound_near (pending_value c.args.self.now.pending) (current_value c.args.self.now.current) rank actors steps sound))

pub returns-in_default-first-clause-within : goal.returns-in_default-first-clause-within
returns-in_default-first-clause-within c = λ rank actors steps sound. c.in-Some.ensures.within rank actors steps (sound_near (pending_value c.args.self.now.pending) (current_value c.args.self.now.current) rank actors steps sound)

-- both have: the sooner of two
pub returns-clause-first : goal.returns-clause-first
returns-clause-first c = λ rank actors steps sound.
    let one = sound_near (pending_value c.args.self.now.pending) (current_value c.args.self.now.current) rank actors steps sound in
    let two = sound_far (pending_value c.args.self.now.pending) (current_value c.args.self.now.current) rank actors steps sound in
    let near = c.in-Some.ensures.within rank actors steps one in
    let far = c.in-Some-first.ensures.within rank actors steps two in
    let ranked : c.sooner.result.rank ≡ rank c.sooner.result.actor =
    ⊎_elim (λ (e : c.sooner.result ≡ c.in-Some.pending). subst (λ (x : EventPlace). x.rank ≡ rank x.actor) (sym e) near.rank_is)
    (λ (e : c.sooner.result ≡ c.in-Some-first.current). subst (λ (x : EventPlace). x.rank ≡ rank x.actor) (sym e) far.rank_is) c.sooner.ensures.one in
    first_of_both rank (waits_in rank (pending_value c.args.self.now.pending)) (waits_in rank (current_value c.args.self.now.current)) c.sooner.result c.in-Some.pending c.in-Some-first.current ranked near.rank_is far.rank_is
    c.sooner.ensures.first.0 c.sooner.ensures.first.1 (c.in-Some.ensures.first rank actors steps one) (c.in-Some-first.ensures.first rank actors steps two)

pub returns-clause-present : goal.returns-clause-present
returns-clause-present c = λ rank actors steps sound.
    let n = waits_in rank (pending_value c.args.self.now.pending) in let f = waits_in rank (current_value c.args.self.now.current) in
    ⊎_elim
    (λ (is : c.sooner.result ≡ c.in-Some.pending). subst (λ (x : EventPlace). any_present (waiting (added n f) x.actor x.tag) ≡ true) (sym is)
    (present_early n f c.in-Some.pending.actor c.in-Some.pending.tag (c.in-Some.ensures.present rank actors steps (sound_near (pending_value c.args.self.now.pending) (current_value c.args.self.now.current) rank actors steps sound))))
    (λ (is : c.sooner.result ≡ c.in-Some-first.current). subst (λ (x : EventPlace). any_present (waiting (added n f) x.actor x.tag) ≡ true) (sym is)
    (present_late n f c.in-Some-first.current.actor c.in-Some-first.current.tag (c.in-Some-first.ensures.present rank actors steps (sound_far (pending_value c.args.self.now.pending) (current_value c.args.self.now.current) rank actors steps sound))))
    c.sooner.ensures.one

pub returns-clause-within : goal.returns-clause-within
returns-clause-within c = λ rank actors steps sound.
    ⊎_elim
    (λ (is : c.sooner.result ≡ c.in-Some.pending). subst (IsPlaceIn rank actors steps) (sym is) (c.in-Some.ensures.within rank actors steps (sound_near (pending_value c.args.self.now.pending) (current_value c.args.self.now.current) rank actors steps sound)))
    (λ (is : c.sooner.result ≡ c.in-Some-first.current). subst (IsPlaceIn rank actors steps) (sym is) (c.in-Some-first.ensures.within rank actors steps (sound_far (pending_value c.args.self.now.pending) (current_value c.args.self.now.current) rank actors steps sound)))
    c.sooner.ensures.one
