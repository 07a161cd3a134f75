-- What waits after the events of an actor and a tag are taken from the front, one by one.
use Rattle.std.proofs.Common.{◌≡◌, ℕ, zero, suc, ◌<◌, ◌≤◌, ◌==◌, ◌&&◌, not, Bool, true, false, cond, Some, None, Option, ℤ, refl, sym, ap, subst, ◌∙◌, arith, IsSome, List, length, nat_lt, lt-ltb, if◌then◌else◌, slice_index_or, slice_set, ⊎_elim, ◌⊎◌, inl, inr, eqb-true, ◌≢◌}
use Rattle.std.proofs.lemmas.Bool.Decides.{nat_tests}
use Rattle.std.proofs.lemmas.Grind.{common_steps}
use Rattle.std.proofs.lemmas.List.{ext_get_or, get_or-set_same, get_or-set_other, length-set}
use Rattle.std.specs.Ordering.{is_eq}
use Rattle.pt_tags.specs.declared.tag.Tag.{Tag}
use Rattle.pt_tags.specs.Tags.{same_tag}
use Rattle.pt_types.specs.Ports.{when, at_port, eight}
use Rattle.pt_semantics.specs.Lists.{or_else}
use Rattle.pt_semantics.specs.Meaning.{IsFirst, without}
use Rattle.pt_meaning.specs.declared.place.EventPlace.{EventPlace}
use Rattle.pt_meaning.specs.Waiting.{place_cmp, place_of, waits_in, IsPlaceIn, EventsArePlaced}
use Rattle.pt_meaning.specs.Front.{IsLeastPlace, TakesOne, NoneInFront, is_place_of}
use Rattle.pt_meaning.proofs.Places.{one_place, same_self, up_to}

-- each of some events is one of others
abbrev pub IsPart : (EventPlace → Option ℤ) → (EventPlace → Option ℤ) → Type 0
IsPart some all = (q : EventPlace) (v : ℤ) → some q ≡ Some v → all q ≡ Some v

there : (b : Bool) (x : Option ℤ) (v : ℤ) → cond b None x ≡ Some v → x ≡ Some v
there true x v h = absurd cc
there false x v h = h

pub kept_more : (t : Tag) (a port : ℕ) (v : ℤ) (all before now : EventPlace → Option ℤ) → TakesOne t a port v before now → IsPart before all → IsPart now all
kept_more t a port v all before now leaves part q w h = part q w (there (is_eq (place_cmp leaves.place q)) (before q) w (sym (leaves.others q) ∙ h))

here : (t : Tag) (a : ℕ) (x : EventPlace) → x.tag ≡ t → x.actor ≡ a → is_place_of t a x ≡ true
here t a x tag actor = grind (arith, nat_tests, common_steps)

stays : (b : Bool) (x : Option ℤ) → (b ≡ true → ⊥) → cond b None x ≡ x
stays true x h = absurd (h refl)
stays false x h = refl

pub others_more : (t : Tag) (a port : ℕ) (v : ℤ) (all before now : EventPlace → Option ℤ) → TakesOne t a port v before now
    → ((q : EventPlace) → is_place_of t a q ≡ false → before q ≡ all q)
    → (q : EventPlace) → is_place_of t a q ≡ false → now q ≡ all q
others_more t a port v all before now leaves was q other =
    leaves.others q
    ∙ stays (is_eq (place_cmp leaves.place q)) (before q) (λ e. let same : is_place_of t a q ≡ true = subst (λ z. is_place_of t a z ≡ true) (one_place leaves.place q e) (here t a leaves.place leaves.tag leaves.actor_is) in absurd cc)
    ∙ was q other

-- the place of an event is where its actor's rank puts it
pub its_place : (rank : ℕ → ℕ) (x : EventPlace) (a p : ℕ) (t : Tag) → x.rank ≡ rank x.actor → x.tag ≡ t → x.actor ≡ a → x.port ≡ p → x ≡ place_of rank a p t
its_place rank x a p t ranked tag actor port = λ i. record { tag = tag i; rank = (ranked ∙ ap rank actor) i; actor = actor i; port = port i }

same_or_not : (m k : ℕ) → (m ≡ k) ⊎ (m ≢ k)
same_or_not m k = dec_of (m == k) refl
  where
    dec_of : (b : Bool) → (m == k) ≡ b → (m ≡ k) ⊎ (m ≢ k)
    dec_of true e = inl (eqb-true m k e)
    dec_of false e = inr (λ s. grind (arith, nat_tests))

-- one event more was taken: its value stands at its port
pub values_more : (rank : ℕ → ℕ) (actors steps : ℕ) (t : Tag) (a port : ℕ) (v : ℤ) (all before now : EventPlace → Option ℤ) (values : List (Option ℤ)) (wanted : ℕ → Option ℤ) → length values ≡ 8
    → EventsArePlaced rank actors steps all → TakesOne t a port v before now → IsPart before all
    → ((p : ℕ) → p < 8 → or_else (before (place_of rank a p t)) (slice_index_or values p None) ≡ wanted p)
    → (p : ℕ) → p < 8 → or_else (now (place_of rank a p t)) (slice_index_or (slice_set values port (Some v)) p None) ≡ wanted p
values_more rank actors steps t a port v all before now values wanted len sound leaves part was p low =
    ⊎_elim
    (λ (e : p ≡ port).
    let at : leaves.place ≡ place_of rank a p t = its_place rank leaves.place a p t placed.rank_is leaves.tag leaves.actor_is (leaves.port_is ∙ sym e) in
    let gone : now (place_of rank a p t) ≡ None = subst (λ z. now z ≡ None) at taken in
    let here : before (place_of rank a p t) ≡ Some v = subst (λ z. before z ≡ Some v) at leaves.was in
    ap (λ x. or_else x (slice_index_or (slice_set values port (Some v)) p None)) gone
    ∙ ap (λ z. slice_index_or (slice_set values port (Some v)) z None) e ∙ get_or-set_same values port (Some v) None within
    ∙ ap (λ x. or_else x (slice_index_or values p None)) (sym here) ∙ was p low)
    (λ (ne : p ≢ port).
    ap (or_else (now (place_of rank a p t))) (get_or-set_other values port p (Some v) None ne)
    ∙ ap (λ x. or_else x (slice_index_or values p None))
    (leaves.others (place_of rank a p t)
    ∙ stays (is_eq (place_cmp leaves.place (place_of rank a p t))) (before (place_of rank a p t)) (λ e. ne (ap (λ (z : EventPlace). z.port) (sym (one_place leaves.place (place_of rank a p t) e)) ∙ leaves.port_is)))
    ∙ was p low)
    (same_or_not p port)
  where
    taken : now leaves.place ≡ None
    taken = leaves.others leaves.place ∙ ap (λ b. cond b None (before leaves.place)) (same_self leaves.place)

    placed : IsPlaceIn rank actors steps leaves.place
    placed = sound leaves.place (subst IsSome (sym (part leaves.place v leaves.was)) refl)

    within : port < length values
    within = let low : leaves.place.port < 8 = placed.port in omega (arith, len, leaves.port_is, low)

-- an event that was taken is at one of eight ports
pub port_low : (rank : ℕ → ℕ) (actors steps : ℕ) (t : Tag) (a port : ℕ) (v : ℤ) (all before now : EventPlace → Option ℤ) → EventsArePlaced rank actors steps all → TakesOne t a port v before now → IsPart before all → nat_lt port 8 ≡ true
port_low rank actors steps t a port v all before now sound leaves part =
    let placed = sound leaves.place (subst IsSome (sym (part leaves.place v leaves.was)) refl) in
    let low : leaves.place.port < 8 = placed.port in
    let same : leaves.place.port ≡ port = leaves.port_is in
    lt-ltb port 8 (omega (arith, low, same))

length_by : (b : Bool) (values : List (Option ℤ)) (port : ℕ) (v : ℤ) → length values ≡ 8 → length (cond b (slice_set values port (Some v)) values) ≡ 8
length_by true values port v len = length-set values port (Some v) ∙ len
length_by false values port v len = len

-- eight values are eight after one was written
pub length_put : (values : List (Option ℤ)) (port : ℕ) (v : ℤ) → length values ≡ 8 → length (if nat_lt port 8 then slice_set values port (Some v) else values) ≡ 8
length_put values port v len = length_by (nat_lt port 8) values port v len

pub at_eight : (f : ℕ → Option ℤ) (i : ℕ) → i < 8 → slice_index_or (eight f) i None ≡ f i
at_eight f zero h = refl
at_eight f (suc zero) h = refl
at_eight f (suc (suc zero)) h = refl
at_eight f (suc (suc (suc zero))) h = refl
at_eight f (suc (suc (suc (suc zero)))) h = refl
at_eight f (suc (suc (suc (suc (suc zero))))) h = refl
at_eight f (suc (suc (suc (suc (suc (suc zero)))))) h = refl
at_eight f (suc (suc (suc (suc (suc (suc (suc zero))))))) h = refl
at_eight f (suc (suc (suc (suc (suc (suc (suc (suc i)))))))) h = absurd (omega arith)

-- eight values that are those that waited
pub all_eight : (f : ℕ → Option ℤ) (values : List (Option ℤ)) → length values ≡ 8 → ((p : ℕ) → p < 8 → slice_index_or values p None ≡ f p) → values ≡ eight f
all_eight f values len at = ext_get_or None values (eight f) len (λ i h. let k : i < 8 = omega (arith, len) in at i k ∙ sym (at_eight f i k))

as_some : (x : Option ℤ) → IsSome x → (v : ℤ) × (x ≡ Some v)
as_some None h = absurd cc
as_some (Some v) h = (v, refl)

or_not : (x : Option ℤ) → (IsSome x → ⊥) → x ≡ None
or_not None h = refl
or_not (Some v) h = absurd (h refl)

-- where the first event isn't of that tag and actor, which come first, no event is
pub none_left : (rank : ℕ → ℕ) (actors steps : ℕ) (t : Tag) (a : ℕ) (all now : EventPlace → Option ℤ) → EventsArePlaced rank actors steps all → IsFirst rank (waits_in rank all) a t → IsPart now all
    → NoneInFront t a now → (p : ℕ) → now (place_of rank a p t) ≡ None
none_left rank actors steps t a all now sound first part front p =
    ⊎_elim (λ (empty : (q : EventPlace) → now q ≡ None). empty (place_of rank a p t))
    (λ (other : (x : EventPlace) × IsLeastPlace now x × (is_place_of t a x ≡ false)).
    or_not (now (place_of rank a p t)) (λ some.
    let x : EventPlace = other.0 in
    let value = as_some (now x) other.1.there in
    let was = part x value.0 value.1 in
    let placed = sound x (subst IsSome (sym was) refl) in
    let stands : x ≡ place_of rank x.actor x.port x.tag = its_place rank x x.actor x.port x.tag placed.rank_is refl refl refl in
    let later = first x.actor x.port x.tag value.0 (subst (λ z. all z ≡ Some value.0) stands was) in
    let sooner = up_to x (place_of rank a p t) (other.1.least (place_of rank a p t) some) in
    is_here t a x (rank a) (rank x.actor) placed.rank_is sooner later other.2))
    front
  where
    is_here : (t : Tag) (a : ℕ) (x : EventPlace) (r s : ℕ) → x.rank ≡ s
        → (x.tag.time ≤ t.time) × (t.time ≤ x.tag.time → (x.tag.step ≤ t.step) × (t.step ≤ x.tag.step → (x.rank ≤ r) × (r ≤ x.rank → x.actor ≤ a)))
        → (t.time ≤ x.tag.time) × (x.tag.time ≤ t.time → (t.step ≤ x.tag.step) × (x.tag.step ≤ t.step → (r ≤ s) × (s ≤ r → a ≤ x.actor)))
        → is_place_of t a x ≡ false → ⊥
    is_here t a x r s ranked l n off =
        let l1 = l.1 n.0 in
        let n1 = n.1 l.0 in
        let l2 = l1.1 n1.0 in
        let n2 = n1.1 l1.0 in
        let low : x.actor ≤ a = l2.1 (omega (arith, n2.0, ranked)) in
        let high : a ≤ x.actor = n2.1 (omega (arith, l2.0, ranked)) in
        let time : t.time ≡ x.tag.time = omega (arith, l.0, n.0) in
        let step : t.step ≡ x.tag.step = omega (arith, l1.0, n1.0) in
        let actor : x.actor ≡ a = omega (arith, low, high) in
        grind (arith, nat_tests, common_steps)

-- all that waited was taken
pub all_taken : (rank : ℕ → ℕ) (t : Tag) (a : ℕ) (all now : EventPlace → Option ℤ) (old values : List (Option ℤ)) → length values ≡ 8
    → ((p : ℕ) → p < 8 → or_else (now (place_of rank a p t)) (slice_index_or values p None) ≡ or_else (all (place_of rank a p t)) (slice_index_or old p None))
    → ((p : ℕ) → now (place_of rank a p t) ≡ None) → values ≡ eight (λ p. or_else (waits_in rank all a p t) (at_port old p))
all_taken rank t a all now old values len at none =
    all_eight (λ p. or_else (waits_in rank all a p t) (at_port old p)) values len (λ p low. ap (λ x. or_else x (slice_index_or values p None)) (sym (none p)) ∙ at p low)

of_is : (t : Tag) (a b : ℕ) (u : Tag) → (b == a && same_tag t u) ≡ true → (b ≡ a) × (t.time ≡ u.time) × (t.step ≡ u.step)
of_is t a b u h = (grind (arith, nat_tests, common_steps), grind (arith, nat_tests, common_steps), grind (arith, nat_tests, common_steps))

-- and nothing else
pub waits_without : (rank : ℕ → ℕ) (t : Tag) (a : ℕ) (all now : EventPlace → Option ℤ)
    → ((q : EventPlace) → is_place_of t a q ≡ false → now q ≡ all q)
    → ((p : ℕ) → now (place_of rank a p t) ≡ None) → waits_in rank now ≡ without (waits_in rank all) a t
waits_without rank t a all now others none = λ i b p u. at b p u i
  where
    by : (b p : ℕ) (u : Tag) (c : Bool) → (b == a && same_tag t u) ≡ c → waits_in rank now b p u ≡ when (not c) (waits_in rank all b p u)
    by b p u true e =
        let is = of_is t a b u e in
        let at : place_of rank a p t ≡ place_of rank b p u = λ i. place_of rank (sym is.0 i) p (record { time = is.1 i; step = is.2 i }) in
        subst (λ z. now z ≡ None) at (none p)
    by b p u false e = others (place_of rank b p u) e

    at : (b p : ℕ) (u : Tag) → waits_in rank now b p u ≡ without (waits_in rank all) a t b p u
    at b p u = by b p u (b == a && same_tag t u) refl

-- a part of sound events is sound
pub sound_part : (rank : ℕ → ℕ) (actors steps : ℕ) (all now : EventPlace → Option ℤ) → EventsArePlaced rank actors steps all → IsPart now all → EventsArePlaced rank actors steps now
sound_part rank actors steps all now sound part x h =
    let value = as_some (now x) h in
    sound x (subst IsSome (sym (part x value.0 value.1)) refl)
