use Rattle.std.proofs.Common.{◌≡◌, ◌∙◌, ⊎_elim, true, ap, sym, subst}
use Rattle.std.specs.BTreeMap as tree
use Rattle.pt_semantics.specs.Firing.{any_present}
use Rattle.pt_semantics.specs.Lists.{or_else}
use Rattle.pt_semantics.specs.Meaning.{Values, IsFirst, waiting, added}
use Rattle.pt_meaning.specs.declared.place.EventPlace.{EventPlace}
use Rattle.pt_meaning.specs.Line.{in_line}
use Rattle.pt_meaning.specs.Waiting.{place_cmp, place_of, waits_in, IsPlaceIn}
use Rattle.pt_meaning.proofs.Both.{first_of_both, only_late, only_early, present_early, present_late}
use Rattle.pt_meaning.proofs.Parts.{if_some, if_none, least_first, least_present, sound_near, sound_far, within_near, within_far}
use Rattle.pt_meaning.proofs.pending.Pending.first.Goals as goal

-- only the map has events, if any
pub returns-in_default-clause-first : goal.returns-in_default-clause-first
returns-in_default-clause-first c =
    let n = in_line place_cmp c.args.self.now.line in let f = tree.get place_cmp c.args.self.now.later.events in
    if_some f c.first-in_default.result c.first-in_default.ensures (λ x least rank actors steps sound.
    subst (λ (v : Values). IsFirst rank v x.actor x.tag) (sym (only_late (waits_in rank n) (waits_in rank f) (λ a p t. c.in_default.ensures (place_of rank a p t))))
    (least_first rank actors steps f x least (sound_far n f rank actors steps sound)))

pub returns-in_default-clause-present : goal.returns-in_default-clause-present
returns-in_default-clause-present c =
    let n = in_line place_cmp c.args.self.now.line in let f = tree.get place_cmp c.args.self.now.later.events in
    if_some f c.first-in_default.result c.first-in_default.ensures (λ x least rank actors steps sound.
    present_late (waits_in rank n) (waits_in rank f) x.actor x.tag (least_present rank actors steps f x least (sound_far n f rank actors steps sound)))

pub returns-in_default-clause-within : goal.returns-in_default-clause-within
returns-in_default-clause-within c =
    let n = in_line place_cmp c.args.self.now.line in let f = tree.get place_cmp c.args.self.now.later.events in
    if_some f c.first-in_default.result c.first-in_default.ensures (λ x least rank actors steps sound. within_far n f rank actors steps x least sound)

pub returns-in_default-clause-empty : goal.returns-in_default-clause-empty
returns-in_default-clause-empty c =
    let f = tree.get place_cmp c.args.self.now.later.events in
    if_none f c.first-in_default.result c.first-in_default.ensures (λ none rank a p t.
    ap (λ x. or_else x (f (place_of rank a p t))) (c.in_default.ensures (place_of rank a p t)) ∙ none (place_of rank a p t))

-- only the line has
pub returns-in_default-first-clause-first : goal.returns-in_default-first-clause-first
returns-in_default-first-clause-first c = λ rank actors steps sound.
    let n = in_line place_cmp c.args.self.now.line in let f = tree.get place_cmp c.args.self.now.later.events in
    subst (λ (v : Values). IsFirst rank v c.in-Some.near.actor c.in-Some.near.tag)
    (sym (only_early (waits_in rank n) (waits_in rank f) (λ a p t. c.in_default-first.ensures (place_of rank a p t))))
    (least_first rank actors steps n c.in-Some.near c.in-Some.ensures (sound_near n f rank actors steps sound))

pub returns-in_default-first-clause-present : goal.returns-in_default-first-clause-present
returns-in_default-first-clause-present c = λ rank actors steps sound.
    let n = in_line place_cmp c.args.self.now.line in let f = tree.get place_cmp c.args.self.now.later.events in
    present_early (waits_in rank n) (waits_in rank f) c.in-Some.near.actor c.in-Some.near.tag (least_present rank actors steps n c.in-Some.near c.in-Some.ensures (sound_near n f rank actors steps sound))

pub returns-in_default-first-clause-within : goal.returns-in_default-first-clause-within
returns-in_default-first-clause-within c = λ rank actors steps sound.
    within_near (in_line place_cmp c.args.self.now.line) (tree.get place_cmp c.args.self.now.later.events) rank actors steps c.in-Some.near c.in-Some.ensures sound

-- both have: the sooner of two
pub returns-clause-first : goal.returns-clause-first
returns-clause-first c = λ rank actors steps sound.
    let n = in_line place_cmp c.args.self.now.line in let f = tree.get place_cmp c.args.self.now.later.events in
    let near = within_near n f rank actors steps c.in-Some.near c.in-Some.ensures sound in
    let far = within_far n f rank actors steps c.in-Some-first.far c.in-Some-first.ensures sound in
    let ranked : c.sooner.result.rank ≡ rank c.sooner.result.actor =
    ⊎_elim (λ (e : c.sooner.result ≡ c.in-Some.near). subst (λ (x : EventPlace). x.rank ≡ rank x.actor) (sym e) near.rank_is)
    (λ (e : c.sooner.result ≡ c.in-Some-first.far). subst (λ (x : EventPlace). x.rank ≡ rank x.actor) (sym e) far.rank_is) c.sooner.ensures.one in
    first_of_both rank (waits_in rank n) (waits_in rank f) c.sooner.result c.in-Some.near c.in-Some-first.far ranked near.rank_is far.rank_is
    c.sooner.ensures.first.0 c.sooner.ensures.first.1 (least_first rank actors steps n c.in-Some.near c.in-Some.ensures (sound_near n f rank actors steps sound)) (least_first rank actors steps f c.in-Some-first.far c.in-Some-first.ensures (sound_far n f rank actors steps sound))

pub returns-clause-present : goal.returns-clause-present
returns-clause-present c = λ rank actors steps sound.
    let n = in_line place_cmp c.args.self.now.line in let f = tree.get place_cmp c.args.self.now.later.events in
    ⊎_elim
    (λ (is : c.sooner.result ≡ c.in-Some.near). subst (λ (x : EventPlace). any_present (waiting (added (waits_in rank n) (waits_in rank f)) x.actor x.tag) ≡ true) (sym is)
    (present_early (waits_in rank n) (waits_in rank f) c.in-Some.near.actor c.in-Some.near.tag (least_present rank actors steps n c.in-Some.near c.in-Some.ensures (sound_near n f rank actors steps sound))))
    (λ (is : c.sooner.result ≡ c.in-Some-first.far). subst (λ (x : EventPlace). any_present (waiting (added (waits_in rank n) (waits_in rank f)) x.actor x.tag) ≡ true) (sym is)
    (present_late (waits_in rank n) (waits_in rank f) c.in-Some-first.far.actor c.in-Some-first.far.tag (least_present rank actors steps f c.in-Some-first.far c.in-Some-first.ensures (sound_far n f rank actors steps sound))))
    c.sooner.ensures.one

pub returns-clause-within : goal.returns-clause-within
returns-clause-within c = λ rank actors steps sound.
    let n = in_line place_cmp c.args.self.now.line in let f = tree.get place_cmp c.args.self.now.later.events in
    ⊎_elim
    (λ (is : c.sooner.result ≡ c.in-Some.near). subst (IsPlaceIn rank actors steps) (sym is) (within_near n f rank actors steps c.in-Some.near c.in-Some.ensures sound))
    (λ (is : c.sooner.result ≡ c.in-Some-first.far). subst (IsPlaceIn rank actors steps) (sym is) (within_far n f rank actors steps c.in-Some-first.far c.in-Some-first.ensures sound))
    c.sooner.ensures.one
