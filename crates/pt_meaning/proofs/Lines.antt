-- What waits in a line, and what an event more or less does to it.
use Rattle.std.proofs.Common.{◌≡◌, ℕ, zero, suc, ◌<◌, ◌==◌, ◌&&◌, List, [], ◌∷◌, ◌++◌, length, get_or, cond, Bool, true, false, Option, Some, None, IsSome, MatchBool, MatchOption, ℤ, refl, sym, ap, subst, ◌∙◌, arith, inl, inr}
use Rattle.std.specs.declared.cmp.Ordering.{Ordering}
use Rattle.std.specs.declared.cmp.Ordering.TheVariants.{Less, Equal, Greater}
use Rattle.std.specs.Ordering.{is_lt, is_gt, is_eq}
use Rattle.std.specs.Cmp.{IsTotalOrder}
use Rattle.std.proofs.lemmas.Cmp.{alike_right, tied_itself, nat_cmp_total, on_total, then_total}
use Rattle.pt_tags.specs.declared.tag.Tag.{Tag}
use Rattle.pt_tags.specs.Tags.{same_tag}
use Rattle.std.proofs.lemmas.List.{append-nil, length-append}
use Rattle.std.proofs.lemmas.Bool.Decides.{nat_tests}
use Rattle.std.proofs.lemmas.Grind.{common_steps}
use Rattle.pt_types.specs.Ports.{when}
use Rattle.pt_semantics.specs.Lists.{or_else, Each}
use Rattle.pt_meaning.specs.declared.place.EventPlace.{EventPlace}
use Rattle.pt_meaning.specs.declared.gap_buffer.Sent.{Sent}
use Rattle.pt_meaning.specs.Line.{begins_with, in_line, AreAfter, AreBefore, IsSortedLine}
use Rattle.pt_meaning.specs.Waiting.{place_cmp}
use Rattle.pt_meaning.specs.Front.{Enters, IsLeastPlace, TakesOne, NoneInFront, is_place_of}
use Rattle.pt_meaning.proofs.Places.{one_place, same_self}

pub place_total : IsTotalOrder place_cmp
place_total =
    then_total (then_total (on_total (λ (p : EventPlace). p.tag.time) nat_cmp_total) (on_total (λ (p : EventPlace). p.tag.step) nat_cmp_total))
    (then_total (on_total (λ (p : EventPlace). p.rank) nat_cmp_total) (then_total (on_total (λ (p : EventPlace). p.actor) nat_cmp_total) (on_total (λ (p : EventPlace). p.port) nat_cmp_total)))

pub lt_of : (o : Ordering) → is_lt o ≡ true → o ≡ Less
lt_of Less h = refl
lt_of Equal h = absurd cc
lt_of Greater h = absurd cc

eq_of : (o : Ordering) → is_eq o ≡ true → o ≡ Equal
eq_of Less h = absurd cc
eq_of Equal h = refl
eq_of Greater h = absurd cc

module _ (R : EventPlace → EventPlace → Ordering) (o : IsTotalOrder R) where
  -- where all are after a place, nothing is at it
  absent : (p q : EventPlace) (es : List Sent) → Each (λ (e : Sent). R e.place p ≡ Greater) es → is_eq (R p q) ≡ true → in_line R es q ≡ None
  absent p q [] after same = refl
  absent p q (e ∷ es) after same =
      let here : R e.place q ≡ Greater = sym (alike_right o p q e.place (eq_of (R p q) same)) ∙ after.0 in
      rw here (absent p q es after.1 same)

  back_from_less : (x y : EventPlace) → R x y ≡ Less → R y x ≡ Greater
  back_from_less x y h = rw (o.antisymm y x, h) refl

  each_back : (x : EventPlace) (es : List Sent) → Each (λ (e : Sent). R x e.place ≡ Less) es → Each (λ (e : Sent). R e.place x ≡ Greater) es
  each_back x [] h = tt
  each_back x (e ∷ es) h = (back_from_less x e.place h.0, each_back x es h.1)

  -- the first event left
  pub without_first : (x : Sent) (es : List Sent) → IsSortedLine R (x ∷ es) → (q : EventPlace) → in_line R es q ≡ cond (is_eq (R x.place q)) None (in_line R (x ∷ es) q)
  without_first x es rising q = by (is_eq (R x.place q)) refl
    where
      by : (b : Bool) → is_eq (R x.place q) ≡ b → in_line R es q ≡ cond b None (cond b (Some x.value) (in_line R es q))
      by true same = absent x.place q es (each_back x.place es rising.0) same
      by false same = refl

  after_first : (x : EventPlace) (es : List Sent) (q : EventPlace) → Each (λ (e : Sent). R x e.place ≡ Less) es → IsSome (in_line R es q) → is_gt (R x q) ≡ false
  after_first x [] q after some = absurd cc
  after_first x (e ∷ es) q after some = by (is_eq (R e.place q)) refl some (after_first x es q after.1)
    where
      by : (b : Bool) → is_eq (R e.place q) ≡ b → IsSome (cond b (Some e.value) (in_line R es q)) → (IsSome (in_line R es q) → is_gt (R x q) ≡ false) → is_gt (R x q) ≡ false
      by true same some rest =
          let here : R x q ≡ Less = sym (alike_right o e.place q x (eq_of (R e.place q) same)) ∙ after.0 in
          rw here refl
      by false same some rest = rest some

  eq_not_gt : (o : Ordering) → is_eq o ≡ true → is_gt o ≡ false
  eq_not_gt Less h = refl
  eq_not_gt Equal h = refl
  eq_not_gt Greater h = absurd cc

  -- no event is before the first
  pub first_is_least : (x : Sent) (es : List Sent) → IsSortedLine R (x ∷ es) → (q : EventPlace) → IsSome (in_line R (x ∷ es) q) → is_gt (R x.place q) ≡ false
  first_is_least x es rising q some = by (is_eq (R x.place q)) refl some
    where
      by : (b : Bool) → is_eq (R x.place q) ≡ b → IsSome (cond b (Some x.value) (in_line R es q)) → is_gt (R x.place q) ≡ false
      by true same some = eq_not_gt (R x.place q) same
      by false same some = after_first x.place es q rising.0 some

  -- where the last event is before a place, all are
  pub all_before : (es : List Sent) (p : EventPlace) (last : Sent) (k : ℕ) → length es ≡ suc k → IsSortedLine R es → last ≡ get_or es k last → R last.place p ≡ Less → AreBefore R p es
  all_before [] p last k len rising is before = tt
  all_before (x ∷ []) p last zero len rising is before = (subst (λ (e : Sent). R e.place p ≡ Less) is before, tt)
  all_before (x ∷ []) p last (suc k) len rising is before = absurd (omega (arith, len))
  all_before (x ∷ y ∷ es) p last zero len rising is before = absurd (omega (arith, len))
  all_before (x ∷ y ∷ es) p last (suc k) len rising is before =
      let rest = all_before (y ∷ es) p last k (omega (arith, len)) rising.1 is before in
      (o.trans x.place y.place p rising.0.0 rest.0, rest)

  -- where the first event is after a place, all are
  pub all_after : (es : List Sent) (p : EventPlace) (first : Sent) → IsSortedLine R es → first ≡ get_or es 0 first → R p first.place ≡ Less → AreAfter R p es
  all_after [] p first rising is after = tt
  all_after (x ∷ es) p first rising is after =
      let here : R p x.place ≡ Less = subst (λ (e : Sent). R p e.place ≡ Less) is after in
      (back_from_less p x.place here, rest es rising.0)
    where
      rest : (ys : List Sent) → Each (λ (e : Sent). R x.place e.place ≡ Less) ys → AreAfter R p ys
      rest [] h = tt
      rest (y ∷ ys) h = (back_from_less p y.place (o.trans p x.place y.place (subst (λ (e : Sent). R p e.place ≡ Less) is after) h.0), rest ys h.1)

  -- the parts of a line that rises do
  pub rising_front : (xs ys : List Sent) → IsSortedLine R (xs ++ ys) → IsSortedLine R xs
  rising_front [] ys h = tt
  rising_front (x ∷ xs) ys h = (each_front xs ys h.0, rising_front xs ys h.1)
    where
      each_front : (xs ys : List Sent) → Each (λ (e : Sent). R x.place e.place ≡ Less) (xs ++ ys) → Each (λ (e : Sent). R x.place e.place ≡ Less) xs
      each_front [] ys h = tt
      each_front (e ∷ xs) ys h = (h.0, each_front xs ys h.1)

  pub rising_back : (xs ys : List Sent) → IsSortedLine R (xs ++ ys) → IsSortedLine R ys
  rising_back [] ys h = h
  rising_back (x ∷ xs) ys h = rising_back xs ys h.1

  -- where the events of the second part are before a place, so are all
  pub both_before : (xs : List Sent) (ys : List Sent) (p : EventPlace) → 0 < length ys → IsSortedLine R (xs ++ ys) → AreBefore R p ys → AreBefore R p (xs ++ ys)
  both_before [] ys p some rising before = before
  both_before (x ∷ xs) ys p some rising before =
      let rest = both_before xs ys p some rising.1 before in
      (next (xs ++ ys) (simp length-append (omega (arith, some))) rising.0 rest, rest)
    where
      next : (zs : List Sent) → 0 < length zs → Each (λ (e : Sent). R x.place e.place ≡ Less) zs → AreBefore R p zs → R x.place p ≡ Less
      next [] some rising before = absurd (omega (arith, some))
      next (z ∷ zs) some rising before = o.trans x.place z.place p rising.0 before.0

  -- an event that is the last is there
  pub last_there : (es : List Sent) (last : Sent) (k : ℕ) → length es ≡ suc k → last ≡ get_or es k last → IsSome (in_line R es last.place)
  last_there [] last k len is = absurd (omega (arith, len))
  last_there (x ∷ es) last zero len is = subst (λ (e : Sent). IsSome (in_line R (e ∷ es) last.place)) is (rw (tied_itself o last.place) refl)
  last_there (x ∷ es) last (suc k) len is = by (is_eq (R x.place last.place)) (last_there es last k (omega (arith, len)) is)
    where
      by : (b : Bool) → IsSome (in_line R es last.place) → IsSome (cond b (Some x.value) (in_line R es last.place))
      by true rest = refl
      by false rest = rest

  pub there_in_both : (xs ys : List Sent) (p : EventPlace) → IsSome (in_line R xs p) → IsSome (in_line R (xs ++ ys) p)
  there_in_both [] ys p some = absurd cc
  there_in_both (x ∷ xs) ys p some = by (is_eq (R x.place p)) some (there_in_both xs ys p)
    where
      by : (b : Bool) → IsSome (cond b (Some x.value) (in_line R xs p)) → (IsSome (in_line R xs p) → IsSome (in_line R (xs ++ ys) p)) → IsSome (cond b (Some x.value) (in_line R (xs ++ ys) p))
      by true some rest = refl
      by false some rest = rest some

  new_value : (b : Bool) (x : Option ℤ) (value : ℤ) → (b ≡ true → x ≡ None) → cond b (Some value) x ≡ or_else x (when b (Some value))
  new_value true x value h = rw (h refl) refl
  new_value false None value h = refl
  new_value false (Some v) value h = refl

  -- an event enters before those that are after it
  pub enters_between : (xs ys : List Sent) (p : EventPlace) (v : ℤ) → AreAfter R p ys → (q : EventPlace)
      → in_line R (xs ++ record { place = p; value = v } ∷ ys) q ≡ or_else (in_line R (xs ++ ys) q) (when (is_eq (R p q)) (Some v))
  enters_between [] ys p v after q = new_value (is_eq (R p q)) (in_line R ys q) v (absent p q ys after)
  enters_between (x ∷ xs) ys p v after q = by (is_eq (R x.place q)) (in_line R (xs ++ record { place = p; value = v } ∷ ys) q) (enters_between xs ys p v after q)
    where
      by : (b : Bool) (y : Option ℤ) → y ≡ or_else (in_line R (xs ++ ys) q) (when (is_eq (R p q)) (Some v)) → cond b (Some x.value) y ≡ or_else (cond b (Some x.value) (in_line R (xs ++ ys) q)) (when (is_eq (R p q)) (Some v))
      by true y rest = refl
      by false y rest = rest

  ahead : (es : List Sent) (p : EventPlace) → Each (λ (e : Sent). R e.place p ≡ Greater) es → Each (λ (e : Sent). R p e.place ≡ Less) es
  ahead [] p h = tt
  ahead (e ∷ es) p h = (rw (o.antisymm p e.place, h.0) refl, ahead es p h.1)

  each_between : (P : Sent → Type 0) (xs ys : List Sent) (e : Sent) → Each P (xs ++ ys) → P e → Each P (xs ++ e ∷ ys)
  each_between P [] ys e each here = (here, each)
  each_between P (x ∷ xs) ys e each here = (each.0, each_between P xs ys e each.1 here)

  -- and the line still rises
  pub rising_between : (xs ys : List Sent) (p : EventPlace) (v : ℤ) → AreBefore R p xs → AreAfter R p ys → IsSortedLine R (xs ++ ys) → IsSortedLine R (xs ++ record { place = p; value = v } ∷ ys)
  rising_between [] ys p v before after rising = (ahead ys p after, rising)
  rising_between (x ∷ xs) ys p v before after rising = (
    each_between (λ (f : Sent). R x.place f.place ≡ Less) xs ys (record { place = p; value = v }) rising.0 before.0,
    rising_between xs ys p v before.1 after rising.1,
  )

  -- an event put at the end
  pub enters_last : (es : List Sent) (p : EventPlace) (v : ℤ) (q : EventPlace) → in_line R (es ++ record { place = p; value = v } ∷ []) q ≡ or_else (in_line R es q) (when (is_eq (R p q)) (Some v))
  enters_last es p v q = enters_between es [] p v tt q ∙ ap (λ xs. or_else (in_line R xs q) (when (is_eq (R p q)) (Some v))) (append-nil es)

  pub rising_last : (es : List Sent) (p : EventPlace) (v : ℤ) → AreBefore R p es → IsSortedLine R es → IsSortedLine R (es ++ record { place = p; value = v } ∷ [])
  rising_last es p v before rising = rising_between es [] p v before tt (subst (IsSortedLine R) (sym (append-nil es)) rising)

  -- the first event is the least
  pub least_of : (x : Sent) (es : List Sent) → IsSortedLine R (x ∷ es) → IsSome (in_line R (x ∷ es) x.place) × ((q : EventPlace) → IsSome (in_line R (x ∷ es) q) → is_gt (R x.place q) ≡ false)
  least_of x es rising = (rw (tied_itself o x.place) refl, first_is_least x es rising)

pub least_in : (es : List Sent) (r : Option EventPlace) → MatchOption r (es ≡ []) (λ place. (sent : Sent) × (rest : List Sent) × (es ≡ sent ∷ rest) × (place ≡ sent.place)) → IsSortedLine place_cmp es
    → MatchOption r ((q : EventPlace) → in_line place_cmp es q ≡ None) (λ place. IsLeastPlace (in_line place_cmp es) place)
least_in es None none rising = λ q. ap (λ zs. in_line place_cmp zs q) none
least_in es (Some place) first rising =
    let least = least_of place_cmp place_total first.0 first.1 (subst (IsSortedLine place_cmp) first.2 rising) in
    let here : IsLeastPlace (in_line place_cmp es) first.0.place = subst (λ zs. IsLeastPlace (in_line place_cmp zs) first.0.place) (sym first.2) (record { there = least.0; least = least.1 }) in
    subst (IsLeastPlace (in_line place_cmp es)) (sym first.3) here

pub begins_at : (t : Tag) (a : ℕ) (es : List Sent) (first : Sent) → 0 < length es → first ≡ get_or es 0 first → is_place_of t a first.place ≡ begins_with t a es
begins_at t a [] first some is = absurd (omega (arith, some))
begins_at t a (x ∷ es) first some is = ap (λ (e : Sent). is_place_of t a e.place) is

pub begins_none : (t : Tag) (a : ℕ) (es : List Sent) → length es ≡ 0 → false ≡ begins_with t a es
begins_none t a [] none = refl
begins_none t a (x ∷ es) none = absurd (omega (arith, none))

-- a line begins as its first part does, and as its second part if there is nothing in the first
pub begins_front : (t : Tag) (a : ℕ) (xs ys : List Sent) → 0 < length xs → begins_with t a xs ≡ begins_with t a (xs ++ ys)
begins_front t a [] ys some = absurd (omega (arith, some))
begins_front t a (x ∷ xs) ys some = refl

pub begins_back : (t : Tag) (a : ℕ) (xs ys : List Sent) → length xs ≡ 0 → begins_with t a ys ≡ begins_with t a (xs ++ ys)
begins_back t a [] ys none = refl
begins_back t a (x ∷ xs) ys none = absurd (omega (arith, none))

pub none_in_front : (t : Tag) (a : ℕ) (es : List Sent) → IsSortedLine place_cmp es → begins_with t a es ≡ false → NoneInFront t a (in_line place_cmp es)
none_in_front t a [] rising other = inl (λ q. refl)
none_in_front t a (x ∷ es) rising other =
    let least = least_of place_cmp place_total x es rising in
    inr (x.place, record { there = least.0; least = least.1 }, other)

-- nothing enters where an event is
pub enters_not : (es : List Sent) (p : EventPlace) (v : ℤ) → IsSome (in_line place_cmp es p) → (q : EventPlace) → in_line place_cmp es q ≡ or_else (in_line place_cmp es q) (when (is_eq (place_cmp p q)) (Some v))
enters_not es p v some q = by (is_eq (place_cmp p q)) (in_line place_cmp es q) (λ same. subst (λ z. IsSome (in_line place_cmp es z)) (one_place p q same) some)
  where
    by : (b : Bool) (x : Option ℤ) → (b ≡ true → IsSome x) → x ≡ or_else x (when b (Some v))
    by b (Some w) some = refl
    by false None some = refl
    by true None some = let none = some refl in absurd cc

-- an event is at a place, so that nothing enters, or the line stays as it is
pub there_or_not : (es : List Sent) (p : EventPlace) (v : ℤ) (b : Bool) → (b ≡ true → IsSome (in_line place_cmp es p)) → MatchBool b (Enters p v (in_line place_cmp es) (in_line place_cmp es)) (es ≡ es)
there_or_not es p v true some = enters_not es p v (some refl)
there_or_not es p v false some = refl

of_is : (t : Tag) (a b : ℕ) (u : Tag) → (b == a && same_tag t u) ≡ true → (b ≡ a) × (u.time ≡ t.time) × (u.step ≡ t.step)
of_is t a b u h = (grind (arith, nat_tests, common_steps), grind (arith, nat_tests, common_steps), grind (arith, nat_tests, common_steps))

-- the first event leaves
pub leaves_first : (t : Tag) (a : ℕ) (x : Sent) (es : List Sent) → IsSortedLine place_cmp (x ∷ es) → is_place_of t a x.place ≡ true
    → TakesOne t a x.place.port x.value (in_line place_cmp (x ∷ es)) (in_line place_cmp es)
leaves_first t a x es rising is =
    let of = of_is t a x.place.actor x.place.tag is in
    record {
      place = x.place;
      tag = λ i. record { time = of.1 i; step = of.2 i };
      actor_is = of.0;
      port_is = refl;
      was = ap (λ b. cond b (Some x.value) (in_line place_cmp es x.place)) (same_self x.place);
      others = without_first place_cmp place_total x es rising;
    }
