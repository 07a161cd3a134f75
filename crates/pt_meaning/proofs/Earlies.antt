-- Events from the start: their order, and what waits after some were taken.
use Rattle.std.proofs.Common.{◌≡◌, ℕ, zero, suc, ◌+◌, ◌<◌, ◌≤◌, ◌==◌, ◌&&◌, not, Bool, true, false, cond, Some, None, Option, ℤ, pos, refl, sym, ap, subst, ◌∙◌, arith, List, [], ◌∷◌, ◌++◌, length, get_or, drop}
use Rattle.std.proofs.lemmas.Bool.Decides.{nat_tests}
use Rattle.std.proofs.lemmas.Grind.{common_steps}
use Rattle.std.proofs.lemmas.List.{drop-drop}
use Rattle.std.proofs.lemmas.List.Sorted.{All-permutation}
use Rattle.std.specs.List.{filter}
use Rattle.std.specs.List.Sorted.{IsPermutation, IsSortedByKey, IsStableByKey, ties}
use Rattle.std.specs.Ordering.{is_lt}
use Rattle.pt_tags.specs.declared.tag.Tag.{Tag}
use Rattle.pt_tags.specs.Tags.{same_tag}
use Rattle.pt_types.specs.Ports.{when, eight, only}
use Rattle.pt_semantics.specs.Lists.{or_else, Each}
use Rattle.pt_semantics.specs.Meaning.{IsFirst, NotAfter, at_time, added, waiting, without}
use Rattle.pt_meaning.specs.declared.early.Early.{Early}
use Rattle.pt_semantics.specs.Firing.{any_present}
use Rattle.pt_meaning.specs.declared.place.EventPlace.{EventPlace}
use Rattle.pt_meaning.specs.Waiting.{IsPlaceIn}
use Rattle.pt_meaning.specs.Opening.{start_event}
use Rattle.pt_meaning.specs.Early.{event_moment, event_moment_cmp, place_of_early, early_waits, is_event_at, AreEarly, Heads, IsEarly, IsFiringOrder, NotAtHead, NotLater, EventsRise}
use Rattle.pt_meaning.proofs.Emitting.{each_at}

-- the first of those left is taken
pub heads_on : (t : Tag) (a : ℕ) (events : List Early) (next n : ℕ) (e : Early) (rest : List Early) → drop next events ≡ e ∷ rest → n ≡ next + 1 → is_event_at t a e ≡ true → Heads t a e.value (drop next events) (drop n events)
heads_on t a events next n e rest h m at =
    let others : rest ≡ drop n events = ap (drop 1) (sym h) ∙ drop-drop 1 next events ∙ ap (λ k. drop k events) (sym m) in
    record { event = e; is = h ∙ ap (λ r. e ∷ r) others; at = at; value_is = refl }

off : (t u : Tag) (a b p : ℕ) (e : Early) → is_event_at t a e ≡ true → (b == a && same_tag t u) ≡ false → (e.moment.actor == b && p == 0 && same_tag (at_time e.moment.time) u) ≡ false
off t u a b p e at other = grind (arith, nat_tests, common_steps)

on : (t : Tag) (a p : ℕ) (e : Early) → is_event_at t a e ≡ true → (e.moment.actor == a && p == 0 && same_tag (at_time e.moment.time) t) ≡ (p == 0)
on t a p e at = grind (arith, nat_tests, common_steps)

pub others_on : (t u : Tag) (a b p : ℕ) (v : ℤ) (old new : List Early) → Heads t a v old new → (b == a && same_tag t u) ≡ false → early_waits new b p u ≡ early_waits old b p u
others_on t u a b p v old new heads other =
    sym (ap (λ xs. early_waits xs b p u) heads.is
    ∙ ap (λ c. or_else (when c (Some heads.event.value)) (early_waits new b p u)) (off t u a b p heads.event heads.at other))

value_on : (c : Bool) (first : Option ℤ) (v w : ℤ) (x : Option ℤ) → w ≡ v → or_else (when c (or_else first (Some v))) x ≡ or_else (when c first) (or_else (when c (Some w)) x)
value_on true None v w x e = ap Some (sym e)
value_on true (Some y) v w x e = refl
value_on false first v w x e = refl

pub here_on : (t : Tag) (a p : ℕ) (v : ℤ) (first : Option ℤ) (old new : List Early) → Heads t a v old new
    → or_else (when (p == 0) (or_else first (Some v))) (early_waits new a p t) ≡ or_else (when (p == 0) first) (early_waits old a p t)
here_on t a p v first old new heads =
    value_on (p == 0) first v heads.event.value (early_waits new a p t) heads.value_is
    ∙ ap (or_else (when (p == 0) first))
    (sym (ap (λ xs. early_waits xs a p t) heads.is ∙ ap (λ c. or_else (when c (Some heads.event.value)) (early_waits new a p t)) (on t a p heads.event heads.at)))

pub orderly_on : (rank : ℕ → ℕ) (actors : ℕ) (t : Tag) (a : ℕ) (v : ℤ) (old new : List Early) → Heads t a v old new → IsFiringOrder rank actors old → IsFiringOrder rank actors new
orderly_on rank actors t a v old new heads orderly =
    let is = subst (IsFiringOrder rank actors) heads.is orderly in
    record { placed = is.placed.1; rising = is.rising.1 }

-- the value of the first event
own_test : (e : Early) → (e.moment.actor == e.moment.actor && 0 == 0 && same_tag (at_time e.moment.time) (at_time e.moment.time)) ≡ true
own_test e = grind (arith, nat_tests, common_steps)

pub own_value : (e : Early) (rest : List Early) → early_waits (e ∷ rest) e.moment.actor 0 (at_time e.moment.time) ≡ Some e.value
own_value e rest = ap (λ c. or_else (when c (Some e.value)) (early_waits rest e.moment.actor 0 (at_time e.moment.time))) (own_test e)

apart : (t : Tag) (a : ℕ) (e : Early) → is_event_at t a e ≡ false → (e.moment.actor == a && same_tag t (at_time e.moment.time)) ≡ false
apart t a e h = grind (arith, nat_tests, common_steps)

at_is : (t : Tag) (a : ℕ) (e : Early) → is_event_at t a e ≡ true → (e.moment.actor ≡ a) × (e.moment.time ≡ t.time) × (t.step ≡ 0)
at_is t a e h = (grind (arith, nat_tests, common_steps), grind (arith, nat_tests, common_steps), grind (arith, nat_tests, common_steps))

is_then : (t : Tag) (a : ℕ) (e : Early) → e.moment.actor ≡ a → e.moment.time ≡ t.time → t.step ≡ 0 → is_event_at t a e ≡ true
is_then t a e x y z = grind (arith, nat_tests, common_steps)

-- where the first event isn't of the tag and actor that come first, none after it is
off_later : (rank : ℕ → ℕ) (t : Tag) (a : ℕ) (e f : Early) → e.moment.rank ≡ rank e.moment.actor → f.moment.rank ≡ rank f.moment.actor → NotLater e f → NotAfter rank t a (at_time e.moment.time) e.moment.actor
    → is_event_at t a e ≡ false → is_event_at t a f ≡ false
off_later rank t a e f ranked ranked_f later after other = by (is_event_at t a f) refl
  where
    by : (b : Bool) → is_event_at t a f ≡ b → is_event_at t a f ≡ false
    by false h = h
    by true h =
        let m = at_is t a f h in
        let time : e.moment.time ≡ t.time = omega (arith, later.0, after.0, m.1) in
        let l1 = later.1 (omega (arith, time, m.1)) in
        let n1 = after.1 (omega (arith, time)) in
        let n2 = n1.1 (omega arith) in
        let stands : f.moment.rank ≡ rank a = ranked_f ∙ ap rank m.0 in
        let low : e.moment.actor ≤ f.moment.actor = l1.1 (omega (arith, stands, ranked, n2.0)) in
        let high : a ≤ e.moment.actor = n2.1 (omega (arith, stands, ranked, l1.0)) in
        let actor : e.moment.actor ≡ a = omega (arith, low, high, m.0) in
        let hit : is_event_at t a e ≡ true = is_then t a e actor time m.2 in
        absurd (cc (hit, other))

all_off : (rank : ℕ → ℕ) (actors : ℕ) (t : Tag) (a : ℕ) (e : Early) (fs : List Early) → e.moment.rank ≡ rank e.moment.actor → AreEarly rank actors fs → Each (NotLater e) fs
    → NotAfter rank t a (at_time e.moment.time) e.moment.actor → is_event_at t a e ≡ false → Each (λ f. is_event_at t a f ≡ false) fs
all_off rank actors t a e [] ranked placed later after other = tt
all_off rank actors t a e (f ∷ fs) ranked placed later after other =
    (off_later rank t a e f ranked placed.0.rank_is later.0 after other, all_off rank actors t a e fs ranked placed.1 later.1 after other)

off_here : (t : Tag) (a p : ℕ) (f : Early) → is_event_at t a f ≡ false → (f.moment.actor == a && p == 0 && same_tag (at_time f.moment.time) t) ≡ false
off_here t a p f h = grind (arith, nat_tests, common_steps)

none_of : (t : Tag) (a p : ℕ) (xs : List Early) → Each (λ f. is_event_at t a f ≡ false) xs → early_waits xs a p t ≡ None
none_of t a p [] each = refl
none_of t a p (f ∷ xs) each = ap (λ c. or_else (when c (Some f.value)) (early_waits xs a p t)) (off_here t a p f each.0) ∙ none_of t a p xs each.1

-- after all events of the tag and actor that come first were taken, none is left
pub none_left : (rank : ℕ → ℕ) (actors : ℕ) (t : Tag) (a : ℕ) (all xs : List Early) → IsFirst rank (early_waits all) a t → IsFiringOrder rank actors xs
    → ((b p : ℕ) (u : Tag) → (b == a && same_tag t u) ≡ false → early_waits xs b p u ≡ early_waits all b p u) → NotAtHead t a xs → (p : ℕ) → early_waits xs a p t ≡ None
none_left rank actors t a all [] first orderly others front p = refl
none_left rank actors t a all (e ∷ xs) first orderly others front p =
    let was : early_waits all e.moment.actor 0 (at_time e.moment.time) ≡ Some e.value =
    sym (others e.moment.actor 0 (at_time e.moment.time) (apart t a e front)) ∙ own_value e xs in
    none_of t a p (e ∷ xs)
    (front, all_off rank actors t a e xs orderly.placed.0.rank_is orderly.placed.1 orderly.rising.0 (first e.moment.actor 0 (at_time e.moment.time) e.value was) front)

or_none : (x y : Option ℤ) → y ≡ None → or_else x y ≡ x
or_none None y h = h
or_none (Some v) y h = refl

-- all that waited was taken
pub all_taken : (t : Tag) (a : ℕ) (all xs : List Early) (first : Option ℤ)
    → ((p : ℕ) → or_else (when (p == 0) first) (early_waits xs a p t) ≡ early_waits all a p t) → ((p : ℕ) → early_waits xs a p t ≡ None)
    → eight (only 0 first) ≡ waiting (early_waits all) a t
all_taken t a all xs first here none = λ i. at 0 i ∷ at 1 i ∷ at 2 i ∷ at 3 i ∷ at 4 i ∷ at 5 i ∷ at 6 i ∷ at 7 i ∷ []
  where
    at : (p : ℕ) → when (p == 0) first ≡ early_waits all a p t
    at p = sym (or_none (when (p == 0) first) (early_waits xs a p t) (none p)) ∙ here p

of_is : (t : Tag) (a b : ℕ) (u : Tag) → (b == a && same_tag t u) ≡ true → (b ≡ a) × (t.time ≡ u.time) × (t.step ≡ u.step)
of_is t a b u h = (grind (arith, nat_tests, common_steps), grind (arith, nat_tests, common_steps), grind (arith, nat_tests, common_steps))

pub waits_without : (t : Tag) (a : ℕ) (all xs : List Early) → ((b p : ℕ) (u : Tag) → (b == a && same_tag t u) ≡ false → early_waits xs b p u ≡ early_waits all b p u)
    → ((p : ℕ) → early_waits xs a p t ≡ None) → early_waits xs ≡ without (early_waits all) a t
waits_without t a all xs others none = λ i b p u. at b p u i
  where
    by : (b p : ℕ) (u : Tag) (c : Bool) → (b == a && same_tag t u) ≡ c → early_waits xs b p u ≡ when (not c) (early_waits all b p u)
    by b p u true e =
        let is = of_is t a b u e in
        let tag : t ≡ u = λ i. record { time = is.1 i; step = is.2 i } in
        ap (λ z. early_waits xs z p u) is.0 ∙ ap (early_waits xs a p) (sym tag) ∙ none p
    by b p u false e = others b p u e

    at : (b p : ℕ) (u : Tag) → early_waits xs b p u ≡ without (early_waits all) a t b p u
    at b p u = by b p u (b == a && same_tag t u) refl

-- events that were sorted
no_early : Early
no_early = record { moment = record { time = 0; rank = 0; actor = 0 }; value = pos 0 }

each_from : (P : Early → Type 0) (xs : List Early) → ((k : ℕ) → k < length xs → P (get_or xs k no_early)) → Each P xs
each_from P [] h = tt
each_from P (x ∷ xs) h = (h zero (omega arith), each_from P xs (λ k low. h (suc k) (omega (arith, low))))

not_later : (e f : Early) → is_lt (event_moment_cmp (event_moment f) (event_moment e)) ≡ false → NotLater e f
not_later e f h = grind (arith, nat_tests, common_steps)

trans : (x y z : Early) → NotLater x y → NotLater y z → NotLater x z
trans x y z h k = (
  omega (arith, h.0, k.0),
  λ back.
      let h1 = h.1 (omega (arith, k.0, back)) in
      let k1 = k.1 (omega (arith, h.0, back)) in (
        omega (arith, h1.0, k1.0),
        λ ranks.
            let low : x.moment.actor ≤ y.moment.actor = h1.1 (omega (arith, k1.0, ranks)) in
            let high : y.moment.actor ≤ z.moment.actor = k1.1 (omega (arith, h1.0, ranks)) in
            omega (arith, low, high),
      ),
)

each_later : (x y : Early) (zs : List Early) → NotLater x y → Each (NotLater y) zs → Each (NotLater x) zs
each_later x y [] h each = tt
each_later x y (z ∷ zs) h each = (trans x y z h each.0, each_later x y zs h each.1)

rising_from : (xs : List Early) → ((k : ℕ) → suc k < length xs → NotLater (get_or xs k no_early) (get_or xs (suc k) no_early)) → EventsRise xs
rising_from [] h = tt
rising_from (x ∷ []) h = (tt, tt)
rising_from (x ∷ y ∷ zs) h =
    let rest = rising_from (y ∷ zs) (λ k low. h (suc k) (omega (arith, low))) in
    let one : NotLater x y = h zero (omega arith) in
    ((one, each_later x y zs one rest.0), rest)

pub rising_sorted : (xs : List Early) → IsSortedByKey event_moment event_moment_cmp xs → EventsRise xs
rising_sorted xs sorted = rising_from xs (λ k low.
    let next : k + 1 ≡ suc k = omega arith in
    not_later (get_or xs k no_early) (get_or xs (suc k) no_early)
    (subst (λ n. is_lt (event_moment_cmp (event_moment (get_or xs n no_early)) (event_moment (get_or xs k no_early))) ≡ false) next (sorted k no_early (omega arith) (omega (arith, low)))))

pub each_permuted : (P : Early → Type 0) (xs ys : List Early) → IsPermutation xs ys → Each P xs → Each P ys
each_permuted P xs ys perm each = each_from P ys (λ k low. All-permutation P xs ys perm (λ i d h. each_at P xs i d each h) k no_early low)

off_tie : (t : Tag) (a p r : ℕ) (e : Early) → (e.moment.actor ≡ a → e.moment.rank ≡ r) → ties (λ x y. is_lt (event_moment_cmp (event_moment x) (event_moment y))) (record { moment = record { time = t.time; rank = r; actor = a }; value = pos 0 }) e ≡ false
    → (e.moment.actor == a && p == 0 && same_tag (at_time e.moment.time) t) ≡ false
off_tie t a p r e same h = grind (arith, nat_tests, common_steps)

skip_by : (c : Bool) (x rest found : Option ℤ) (v : ℤ) → (c ≡ false → x ≡ None) → found ≡ rest → cond c (or_else x found) found ≡ or_else x rest
skip_by true x rest found v h e = ap (or_else x) e
skip_by false x rest found v h e = e ∙ sym (ap (λ z. or_else z rest) (h refl))

kept_when : (c : Bool) (e : Early) (es : List Early) (a p : ℕ) (t : Tag) → early_waits (cond c (e ∷ es) es) a p t ≡ cond c (or_else (start_event e.moment.actor e.moment.time e.value a p t) (early_waits es a p t)) (early_waits es a p t)
kept_when true e es a p t = refl
kept_when false e es a p t = refl

only_ties : (rank : ℕ → ℕ) (actors : ℕ) (a p : ℕ) (t : Tag) (xs : List Early) → AreEarly rank actors xs
    → early_waits (filter (ties (λ x y. is_lt (event_moment_cmp (event_moment x) (event_moment y))) (record { moment = record { time = t.time; rank = rank a; actor = a }; value = pos 0 })) xs) a p t ≡ early_waits xs a p t
only_ties rank actors a p t [] each = refl
only_ties rank actors a p t (e ∷ xs) each =
    let x0 : Early = record { moment = record { time = t.time; rank = rank a; actor = a }; value = pos 0 } in
    kept_when (ties (λ x y. is_lt (event_moment_cmp (event_moment x) (event_moment y))) x0 e) e (filter (ties (λ x y. is_lt (event_moment_cmp (event_moment x) (event_moment y))) x0) xs) a p t
    ∙ skip_by (ties (λ x y. is_lt (event_moment_cmp (event_moment x) (event_moment y))) x0 e) (start_event e.moment.actor e.moment.time e.value a p t) (early_waits xs a p t) _ e.value
    (λ h. ap (λ c. when c (Some e.value)) (off_tie t a p (rank a) e (λ is. each.0.rank_is ∙ ap rank is) h))
    (only_ties rank actors a p t xs each.1)

-- sorted events are the same ones
pub same_sorted : (rank : ℕ → ℕ) (actors : ℕ) (xs ys : List Early) → AreEarly rank actors xs → IsPermutation xs ys → IsStableByKey event_moment event_moment_cmp xs ys → early_waits ys ≡ early_waits xs
same_sorted rank actors xs ys each perm stable = λ i a p t. at a p t i
  where
    at : (a p : ℕ) (t : Tag) → early_waits ys a p t ≡ early_waits xs a p t
    at a p t =
        sym (only_ties rank actors a p t ys (each_permuted (IsEarly rank actors) xs ys perm each))
        ∙ ap (λ zs. early_waits zs a p t) (stable (record { moment = record { time = t.time; rank = rank a; actor = a }; value = pos 0 }))
        ∙ only_ties rank actors a p t xs each

or_assoc : (x y z : Option ℤ) → or_else x (or_else y z) ≡ or_else (or_else x y) z
or_assoc None y z = refl
or_assoc (Some v) y z = refl

one_alone : (x : Option ℤ) → or_else x None ≡ or_else None x
one_alone None = refl
one_alone (Some v) = refl

-- one event more
pub early_push : (xs : List Early) (e : Early) → early_waits (xs ++ e ∷ []) ≡ added (early_waits xs) (start_event e.moment.actor e.moment.time e.value)
early_push xs e = λ i a p t. at xs a p t i
  where
    at : (xs : List Early) (a p : ℕ) (t : Tag) → early_waits (xs ++ e ∷ []) a p t ≡ added (early_waits xs) (start_event e.moment.actor e.moment.time e.value) a p t
    at [] a p t = one_alone (start_event e.moment.actor e.moment.time e.value a p t)
    at (x ∷ xs) a p t =
        ap (or_else (start_event x.moment.actor x.moment.time x.value a p t)) (at xs a p t)
        ∙ or_assoc (start_event x.moment.actor x.moment.time x.value a p t) (early_waits xs a p t) (start_event e.moment.actor e.moment.time e.value a p t)

pub early_push_placed : (rank : ℕ → ℕ) (actors : ℕ) (xs : List Early) (e : Early) → AreEarly rank actors xs → IsEarly rank actors e → AreEarly rank actors (xs ++ e ∷ [])
early_push_placed rank actors [] e each one = (one, tt)
early_push_placed rank actors (x ∷ xs) e each one = (each.0, early_push_placed rank actors xs e each.1 one)

-- the first of events in order is the first of all
after_one : (rank : ℕ → ℕ) (e f : Early) (b : ℕ) (u : Tag) → e.moment.rank ≡ rank e.moment.actor → f.moment.rank ≡ rank f.moment.actor → NotLater e f → f.moment.actor ≡ b → f.moment.time ≡ u.time
    → NotAfter rank (at_time e.moment.time) e.moment.actor u b
after_one rank e f b u ranked ranked_f later actor time =
    let stands : f.moment.rank ≡ rank b = ranked_f ∙ ap rank actor in (
      omega (arith, later.0, time),
      λ back. (
        omega arith,
        λ steps.
            let l1 = later.1 (omega (arith, back, time)) in (
              omega (arith, l1.0, ranked, stands),
              λ ranks.
                  let low : e.moment.actor ≤ f.moment.actor = l1.1 (omega (arith, ranks, ranked, stands)) in
                  omega (arith, low, actor),
            ),
      ),
    )

at_place : (b p : ℕ) (u : Tag) (f : Early) → (f.moment.actor == b && p == 0 && same_tag (at_time f.moment.time) u) ≡ true → (f.moment.actor ≡ b) × (f.moment.time ≡ u.time)
at_place b p u f h = (grind (arith, nat_tests, common_steps), grind (arith, nat_tests, common_steps))

after_all : (rank : ℕ → ℕ) (actors : ℕ) (e : Early) (b p : ℕ) (u : Tag) (v : ℤ) (xs : List Early) → e.moment.rank ≡ rank e.moment.actor → AreEarly rank actors xs → Each (NotLater e) xs
    → early_waits xs b p u ≡ Some v → NotAfter rank (at_time e.moment.time) e.moment.actor u b
after_all rank actors e b p u v [] ranked placed later is = absurd cc
after_all rank actors e b p u v (f ∷ xs) ranked placed later is =
    by (after_all rank actors e b p u v xs ranked placed.1 later.1) (f.moment.actor == b && p == 0 && same_tag (at_time f.moment.time) u) refl
  where
    by : (early_waits xs b p u ≡ Some v → NotAfter rank (at_time e.moment.time) e.moment.actor u b) → (c : Bool) → (f.moment.actor == b && p == 0 && same_tag (at_time f.moment.time) u) ≡ c → NotAfter rank (at_time e.moment.time) e.moment.actor u b
    by rest true h = let at = at_place b p u f h in after_one rank e f b u ranked placed.0.rank_is later.0 at.0 at.1
    by rest false h = rest (sym (ap (λ c. or_else (when c (Some f.value)) (early_waits xs b p u)) h) ∙ is)

same_moment : (e : Early) → NotLater e e
same_moment e = (omega arith, λ h. (omega arith, λ k. omega arith))

pub early_first : (rank : ℕ → ℕ) (actors : ℕ) (xs : List Early) (e : Early) (rest : List Early) (place : EventPlace) → xs ≡ e ∷ rest → place ≡ place_of_early e → IsFiringOrder rank actors xs → IsFirst rank (early_waits xs) place.actor place.tag
early_first rank actors xs e rest place is place_is orderly =
    let o = subst (IsFiringOrder rank actors) is orderly in
    subst (λ (x : EventPlace). IsFirst rank (early_waits xs) x.actor x.tag) (sym place_is)
    (subst (λ ys. IsFirst rank (early_waits ys) e.moment.actor (at_time e.moment.time)) (sym is)
    (λ b p u v h. after_all rank actors e b p u v (e ∷ rest) o.placed.0.rank_is o.placed (same_moment e, o.rising.0) h))

any_first : (f : ℕ → Option ℤ) (v : ℤ) → f 0 ≡ Some v → any_present (eight f) ≡ true
any_first f v h = subst (λ x. any_present (x ∷ f 1 ∷ f 2 ∷ f 3 ∷ f 4 ∷ f 5 ∷ f 6 ∷ f 7 ∷ []) ≡ true) (sym h) refl

pub early_present : (xs : List Early) (e : Early) (rest : List Early) (place : EventPlace) → xs ≡ e ∷ rest → place ≡ place_of_early e → any_present (waiting (early_waits xs) place.actor place.tag) ≡ true
early_present xs e rest place is place_is =
    subst (λ (x : EventPlace). any_present (waiting (early_waits xs) x.actor x.tag) ≡ true) (sym place_is)
    (subst (λ ys. any_present (waiting (early_waits ys) e.moment.actor (at_time e.moment.time)) ≡ true) (sym is)
    (any_first (λ p. early_waits (e ∷ rest) e.moment.actor p (at_time e.moment.time)) e.value (own_value e rest)))

pub early_placed : (rank : ℕ → ℕ) (actors steps : ℕ) (xs : List Early) (e : Early) (rest : List Early) (place : EventPlace) → xs ≡ e ∷ rest → place ≡ place_of_early e → IsFiringOrder rank actors xs → IsPlaceIn rank actors steps place
early_placed rank actors steps xs e rest place is place_is orderly =
    let o = subst (IsFiringOrder rank actors) is orderly in
    subst (IsPlaceIn rank actors steps) (sym place_is) (record { rank_is = o.placed.0.rank_is; actor = o.placed.0.actor; port = omega arith; step = omega arith })
